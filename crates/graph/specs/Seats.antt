-- The cores of actors, the ends of links, and the cores that touch an object.

use Rattle.std.specs.List.{list_all}
use Rattle.std.specs.Prelude.{ℕ, ◌^◌, Bool, cond, ◌&&◌, List, length, bit_or, nat_lt}
use Rattle.rules.specs.declared.memory.Object.{Object}
use Rattle.rules.specs.declared.sheet.Actor.{Actor}
use Rattle.rules.specs.declared.sheet.Link.{Link}
use Rattle.rules.specs.Sheets.{core_in}
use Rattle.rules.specs.Drafts.{from, to}
use Rattle.graph.specs.Excluding.{object_at}

-- every actor's core is one of so many
abbrev pub all_on : ℕ → List Actor → Bool
all_on n actors = list_all (λ (a : Actor). nat_lt a.core n) actors

-- both ends of each link are among so many actors
abbrev pub all_known : ℕ → List Link → Bool
all_known n links = list_all (λ (k : Link). nat_lt (from k) n && nat_lt (to k) n) links

-- the cores of an object's two actors, as a set
abbrev pub core_pair : List Actor → Object → ℕ
core_pair actors o = bit_or (2 ^ core_in actors o.producer) (2 ^ core_in actors o.consumer)

-- the cores that touch object x of a list; none where there is no such object
abbrev pub touching_in : List Actor → List Object → ℕ → ℕ
touching_in actors objects x = cond (nat_lt x (length objects)) (core_pair actors (object_at objects x)) 0
