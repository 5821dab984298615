-- What a sheet says.
use Rattle.std.specs.Prelude.{ℕ, List, ◌∷◌, ◌++◌, map, length, slice_index}
use Rattle.rules.specs.declared.sheet.Machine.{Machine}
use Rattle.rules.specs.declared.sheet.Fit.{Fit}
use Rattle.rules.specs.declared.sheet.Layer.{Layer}
use Rattle.rules.specs.declared.sheet.Actor.{Actor}
use Rattle.rules.specs.declared.sheet.Link.{Link}
use Rattle.rules.specs.declared.sheet.Entry.{Entry}
use Rattle.rules.specs.declared.sheet.Entry.TheVariants.{OnMachine, ByFit, WithLayer, NextActor, NextLink}

-- actors are numbered from 0 as they come; layers and links stand in the order of their lines
pub record Sheet : Type 0 where
  pub machine : Machine
  pub fit : Fit
  pub layers : List Layer
  pub actors : List Actor
  pub links : List Link

abbrev pub actor_count : Sheet → ℕ
actor_count s = length s.actors

-- the core of each actor; that of a number which no actor has is never asked
abbrev pub core_in : List Actor → ℕ → ℕ
core_in actors a = slice_index (map (λ (x : Actor). x.core) actors) a

-- the core of actor a
abbrev pub core : Sheet → ℕ → ℕ
core s a = core_in s.actors a

-- a sheet, entry by entry in the order of its lines
abbrev pub entries : Sheet → List Entry
entries s =
    OnMachine s.machine ∷ ByFit s.fit
    ∷ (map (λ l. WithLayer l) s.layers ++ (map (λ a. NextActor a) s.actors ++ map (λ k. NextLink k) s.links))
