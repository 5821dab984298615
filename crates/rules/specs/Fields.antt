-- Reading a line by its bytes: the decision of what a line says.
use Rattle.std.specs.Prelude.{ℕ, cond, ◌&&◌, List, [], ◌∷◌, length, drop, Some, None, Option, ◌==◌, slice_index}
use Rattle.std.specs.Option.{option_map}
use Rattle.rules.specs.declared.sheet.Kind.{Kind}
use Rattle.rules.specs.declared.sheet.Kind.TheVariants.{Unified, Private, Hybrid}
use Rattle.rules.specs.declared.sheet.Fit.{Fit}
use Rattle.rules.specs.declared.sheet.Fit.TheVariants.{First, Best}
use Rattle.rules.specs.declared.sheet.Layer.TheVariants.{LowLine, SnugLimit}
use Rattle.rules.specs.declared.sheet.Fifo.{Fifo}
use Rattle.rules.specs.declared.sheet.Link.TheVariants.{Plain, Delayed, Ordered}
use Rattle.rules.specs.declared.sheet.Entry.{Entry}
use Rattle.rules.specs.declared.sheet.Entry.TheVariants.{OnMachine, ByFit, WithLayer, NextActor, NextLink}
use Rattle.rules.specs.Numerals.{field_on}

-- the kind that a letter names
abbrev pub kind_of : ℕ → Option Kind
kind_of b = cond (b == 85) (Some Unified) (cond (b == 86) (Some Private) (cond (b == 72) (Some Hybrid) None))

-- the fit rule that a letter names
abbrev pub fit_of : ℕ → Option Fit
fit_of b = cond (b == 70) (Some First) (cond (b == 66) (Some Best) None)

-- x, where nothing is left of the line
abbrev pub ending : {X : Type 0} → List ℕ → X → Option X
ending [] x = Some x
ending (b ∷ bs) x = None

-- a field: exactly one space and the letter of a kind, and what follows them
unfoldable pub kind_on : List ℕ → Option (Kind × List ℕ)
kind_on s = cond (slice_index s 0 == 32) (option_map (λ k. (k, drop 2 s)) (kind_of (slice_index s 1))) None

-- a field that names a kind, and what the rest of the line gives with it
abbrev pub with_kind : {X : Type 0} → List ℕ → (Kind → List ℕ → Option X) → Option X
with_kind s f = elim (kind_on s) [ None ↦ None | Some p ↦ f p.0 p.1 ]

-- a field that is a number, and what the rest of the line gives with it
abbrev pub with_field : {X : Type 0} → List ℕ → (ℕ → List ℕ → Option X) → Option X
with_field s f = elim (field_on s) [ None ↦ None | Some p ↦ f p.0 p.1 ]

-- after `M`: kind, cores, shared, private and grain
abbrev pub machine_of : List ℕ → Option Entry
machine_of s =
    with_kind s (λ kind s₁. with_field s₁ (λ cores s₂. with_field s₂ (λ shared s₃. with_field s₃ (λ own s₄. with_field s₄ (λ grain s₅.
    ending s₅ (OnMachine (record { kind = kind; cores = cores; shared = shared; private = own; grain = grain })))))))

-- after `P`: exactly one space and the letter of a fit rule
abbrev pub fit_line_of : List ℕ → Option Entry
fit_line_of s = cond (slice_index s 0 == 32 && length s == 2) (option_map (λ f. ByFit f) (fit_of (slice_index s 1))) None

-- one number, and no more
abbrev pub lone_of : List ℕ → Option ℕ
lone_of s = with_field s (λ n s₁. ending s₁ n)

-- after `L`: the low line
abbrev pub low_of : List ℕ → Option Entry
low_of s = option_map (λ n. WithLayer (LowLine n)) (lone_of s)

-- after `K`: the snug limit
abbrev pub snug_of : List ℕ → Option Entry
snug_of s = option_map (λ n. WithLayer (SnugLimit n)) (lone_of s)

-- after `A`: core and work
abbrev pub actor_of : List ℕ → Option Entry
actor_of s = with_field s (λ core s₁. with_field s₁ (λ work s₂. ending s₂ (NextActor (record { core = core; work = work }))))

-- from, to and size, and no more
abbrev pub fifo_of : List ℕ → Option Fifo
fifo_of s = with_field s (λ a s₁. with_field s₁ (λ b s₂. with_field s₂ (λ n s₃. ending s₃ (record { from = a; to = b; size = n }))))

-- after `F`: a FIFO without initial tokens
abbrev pub plain_of : List ℕ → Option Entry
plain_of s = option_map (λ f. NextLink (Plain f)) (fifo_of s)

-- after `D`: a FIFO with initial tokens
abbrev pub delayed_of : List ℕ → Option Entry
delayed_of s = option_map (λ f. NextLink (Delayed f)) (fifo_of s)

-- after `S`: the actor that runs first, and the other
abbrev pub sequence_of : List ℕ → Option Entry
sequence_of s = with_field s (λ a s₁. with_field s₁ (λ b s₂. ending s₂ (NextLink (Ordered (record { first = a; second = b })))))

-- what the fields after a letter say
abbrev pub fields_of : ℕ → List ℕ → Option Entry
fields_of letter s =
    cond (letter == 77) (machine_of s)
    (cond (letter == 80) (fit_line_of s)
    (cond (letter == 76) (low_of s)
    (cond (letter == 75) (snug_of s)
    (cond (letter == 65) (actor_of s)
    (cond (letter == 70) (plain_of s)
    (cond (letter == 68) (delayed_of s)
    (cond (letter == 83) (sequence_of s) None)))))))

-- what a line says, if it is well written: its letter decides
unfoldable pub entry_of : List ℕ → Option Entry
entry_of line = fields_of (slice_index line 0) (drop 1 line)
