-- How many links an entry is.

use Rattle.std.specs.Prelude.{ℕ}
use Rattle.rules.specs.declared.sheet.Entry.{Entry}
use Rattle.rules.specs.declared.sheet.Entry.TheVariants.{OnMachine, ByFit, WithLayer, NextActor, NextLink}

-- 1 for a link, else 0
abbrev pub link_count : Entry → ℕ
link_count (OnMachine m) = 0
link_count (ByFit f) = 0
link_count (WithLayer l) = 0
link_count (NextActor a) = 0
link_count (NextLink k) = 1
