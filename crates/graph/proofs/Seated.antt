-- Actors whose cores are among so many.
use Rattle.std.proofs.Common.{◌≡◌, ℕ, zero, suc, ◌^◌, ◌<◌, ◌≤◌, true, false, ltb, List, [], ◌∷◌, ◌++◌, length, get_or, Some, None, Option, sym, refl, ap, ◌∙◌, subst, arith}
use lib.Bits.{bit_or}
use Rattle.std.specs.Prelude.{IfSome, MatchOption}
use Rattle.std.specs.List.{HoldsAt}
use Rattle.std.proofs.lemmas.Bool.{and_parts, and_from, lt-ltb, le-ltb, ltb-true, cond-true, cond-false}
use Rattle.std.proofs.lemmas.List.{get_or_default}
use Rattle.rules.specs.declared.memory.Object.{Object}
use Rattle.rules.specs.declared.sheet.Actor.{Actor}
use Rattle.rules.specs.Lists.{Every}
use Rattle.rules.specs.Sheets.{core_in}
use Rattle.graph.specs.Excluding.{object_at}
use Rattle.graph.specs.Seats.{all_on, core_pair, touching_in}

appended : (n : ℕ) (actors : List Actor) (a : Actor) → all_on n actors ≡ true → a.core < n → all_on n (actors ++ a ∷ []) ≡ true
appended n [] a all l = and_from (ltb a.core n) true (lt-ltb a.core n l) refl
appended n (b ∷ bs) a all l =
    let p = and_parts (ltb b.core n) (all_on n bs) all in
    and_from (ltb b.core n) (all_on n (bs ++ a ∷ [])) p.0 (appended n bs a p.1 l)

-- they stay so with one more
pub one_more : (n : ℕ) (actors more : List Actor) (a : Actor) → all_on n actors ≡ true → a.core < n → more ≡ actors ++ a ∷ [] → all_on n more ≡ true
one_more n actors more a all l e = ap (all_on n) e ∙ appended n actors a all l

-- every core is one of eight
pub seat : (actors : List Actor) (a : ℕ) → all_on 8 actors ≡ true → core_in actors a < 8
seat [] a all = omega arith
seat (b ∷ bs) zero all = ltb-true b.core 8 (and_parts (ltb b.core 8) (all_on 8 bs) all).0
seat (b ∷ bs) (suc a) all = seat bs a (and_parts (ltb b.core 8) (all_on 8 bs) all).1

-- what the test says
pub all_runs_on : (n : ℕ) (actors : List Actor) → all_on n actors ≡ true → Every (λ a. a.core < n) actors
all_runs_on n [] all = tt
all_runs_on n (b ∷ bs) all =
    let p = and_parts (ltb b.core n) (all_on n bs) all in (ltb-true b.core n p.0, all_runs_on n bs p.1)

pub runs_all_on : (n : ℕ) (actors : List Actor) → Every (λ a. a.core < n) actors → all_on n actors ≡ true
runs_all_on n [] all = refl
runs_all_on n (b ∷ bs) all = and_from (ltb b.core n) (all_on n bs) (lt-ltb b.core n all.0) (runs_all_on n bs all.1)

-- the pair of the cores of a listed object's actors is the set of those that touch it
pub touching_at : (actors : List Actor) (objects found : List Object) (x : ℕ) (o : Object) (a b r : ℕ) → found ≡ objects → x < length found → o ≡ get_or found x o →
    a ≡ core_in actors o.producer → b ≡ core_in actors o.consumer → r ≡ bit_or (2 ^ a) (2 ^ b) → r ≡ touching_in actors objects x
touching_at actors objects found x o a b r same l at first last pair =
    pair ∙ ap (λ n. bit_or (2 ^ n) (2 ^ b)) first ∙ ap (λ n. bit_or (2 ^ core_in actors o.producer) (2 ^ n)) last
    ∙ ap (core_pair actors) (at ∙ get_or_default found x o (record { producer = 0; consumer = 0; size = 0; delayed = false }) l ∙ ap (λ os. object_at os x) same)
    ∙ sym (cond-true (ltb x (length objects)) (core_pair actors (object_at objects x)) 0 (lt-ltb x (length objects) (subst (λ os. x < length os) same l)))

-- whichever object there is, from what is lent of it
pub touching_found : {B : Type 0} (now : B → Object) (actors : List Actor) (objects ys : List Object) (x r : ℕ) (o : Option B) → all_on 8 actors ≡ true → ys ≡ objects →
    IfSome o (λ k. now k ≡ get_or ys x (now k)) → MatchOption o (length ys ≤ x) (λ k. (x < length ys) × HoldsAt (λ y. now k ≡ y) ys x) →
    MatchOption o (r ≡ 0) (λ k. (a b : ℕ) × (a ≡ core_in actors (now k).producer) × (b ≡ core_in actors (now k).consumer) × (a < 64 → b < 64 → r ≡ bit_or (2 ^ a) (2 ^ b))) →
    r ≡ touching_in actors objects x
touching_found now actors objects ys x r None all same at place is =
    is ∙ sym (cond-false (ltb x (length objects)) (core_pair actors (object_at objects x)) 0 (le-ltb x (length objects) (subst (λ os. length os ≤ x) same place)))
touching_found now actors objects ys x r (Some k) all same at place is =
    let a = seat actors (now k).producer all in
    let b = seat actors (now k).consumer all in
    let first = is.2 in
    let last = is.3 in
    touching_at actors objects ys x (now k) is.0 is.1 r same place.0 at first last (is.4 (omega arith) (omega arith))

-- the cores that touch an object that there is
pub touching_known : (actors : List Actor) (objects : List Object) (x : ℕ) → x < length objects → touching_in actors objects x ≡ core_pair actors (object_at objects x)
touching_known actors objects x l = cond-true (ltb x (length objects)) (core_pair actors (object_at objects x)) 0 (lt-ltb x (length objects) l)
