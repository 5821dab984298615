-- What tables and lists of a sheet that is held say of it.
use Rattle.std.proofs.Common.{◌≡◌, ℕ, ◌<◌, Bool, true, false, ◌&&◌, ltb, List, length, Some, None, Option, is_some, vec_items, vec_len, sym, ap, ◌∙◌, subst}
use Rattle.std.specs.Option.{unwrap_or}
use Rattle.std.specs.Prelude.{IfSome}
use Rattle.std.proofs.lemmas.Bool.{and_parts, and_from, ltb-true, lt-ltb}
use Rattle.rules.specs.declared.memory.Object.{Object}
use Rattle.rules.specs.Sheets.{actor_count}
use Rattle.rules.specs.Objects.{objects, object, object_count}
use Rattle.rules.specs.Order.{Before}
use Rattle.rules.specs.Exclusion.{Excludes}
use Rattle.graph.specs.declared.read_sheet.ReadSheet.{ReadSheet}
use Rattle.graph.specs.Held.{sheet_held}
use Rattle.graph.specs.Seats.{touching_in}
use Rattle.graph.specs.Rows.{before}
use Rattle.graph.specs.Excluding.{excluding, object_at}
use Rattle.graph.specs.Questions.{SaysWhether, SaysBefore, SaysExcludes, IsObject, Touch}
use Rattle.graph.proofs.Held.{objects_of_held}
use Rattle.graph.proofs.Seated.{touching_known}
use Rattle.graph.proofs.Ties.{told}
use Rattle.graph.proofs.Exclusive.{excluding_told, excluding_heard}

-- a test that is true exactly where it is so, given of two numbers below n alone, answers whether it is
says : (So : Type 0) (a b n : ℕ) (known test : Bool) (answer : Option Bool) → known ≡ (ltb a n && ltb b n) → is_some answer ≡ known → IfSome answer (λ t. t ≡ test) →
    (test ≡ true → So) → (So → test ≡ true) → SaysWhether ((a < n) × (b < n)) So answer
says So a b n known test None k e i there back = λ both. let t = and_from (ltb a n) (ltb b n) (lt-ltb a n both.0) (lt-ltb b n both.1) in cc
says So a b n known test (Some true) k e i there back =
    let p = and_parts (ltb a n) (ltb b n) (sym k ∙ sym e) in ((ltb-true a n p.0, ltb-true b n p.1), there (sym i))
says So a b n known test (Some false) k e i there back =
    let p = and_parts (ltb a n) (ltb b n) (sym k ∙ sym e) in ((ltb-true a n p.0, ltb-true b n p.1), λ so. let t = back so in cc)

-- whether the rows put a before b
pub says_before : (r : ReadSheet) (a b : ℕ) (known : Bool) (answer : Option Bool) → known ≡ (ltb a (vec_len r.actors) && ltb b (vec_len r.actors)) → is_some answer ≡ known →
    IfSome answer (λ t. t ≡ before r.links.order.rows a b) → SaysBefore (sheet_held r) a b answer
says_before r a b known answer k e i =
    says (Before (sheet_held r) a b) a b (actor_count (sheet_held r)) known (before r.links.order.rows a b) answer (subst (λ n. known ≡ (ltb a n && ltb b n)) r.actors.ok.0 k) e i
    (told r.links.order.rows (vec_items r.links.list) r.links.meant a b)
    (r.links.heard a b)

object_count_held : (r : ReadSheet) → vec_len r.objects.list ≡ object_count (sheet_held r)
object_count_held r = r.objects.list.ok.0 ∙ ap (λ (os : List Object). length os) (objects_of_held r)

-- whether they make x and y exclude each other
pub says_excludes : (r : ReadSheet) (x y : ℕ) (known test : Bool) (answer : Option Bool) → known ≡ (ltb x (vec_len r.objects.list) && ltb y (vec_len r.objects.list)) →
    is_some answer ≡ known → IfSome answer (λ t. t ≡ test) → test ≡ excluding r.links.order.rows (vec_items r.objects.list) x y → SaysExcludes (sheet_held r) x y answer
says_excludes r x y known test answer k e i is =
    let s = sheet_held r in
    let rows = r.links.order.rows in
    says (Excludes s x y) x y (object_count s) known (excluding rows (objects s) x y) answer (subst (λ n. known ≡ (ltb x n && ltb y n)) (object_count_held r) k) e
    (subst (λ t. IfSome answer (λ u. u ≡ t)) (is ∙ ap (λ (os : List Object). excluding rows os x y) (objects_of_held r)) i)
    (excluding_told rows s r.links.heard x y)
    (excluding_heard rows s r.links.meant x y)

-- the object at x
pub says_object : (r : ReadSheet) (x : ℕ) (answer : Option Object) → is_some answer ≡ ltb x (length (vec_items r.objects.list)) →
    unwrap_or answer (record { producer = 0; consumer = 0; size = 0; delayed = false }) ≡ object_at (vec_items r.objects.list) x → IsObject (sheet_held r) x answer
says_object r x answer e i =
    let same = objects_of_held r in
    go answer (e ∙ ap (λ (os : List Object). ltb x (length os)) same) (i ∙ ap (λ (os : List Object). object_at os x) same)
  where
    go : (o : Option Object) → is_some o ≡ ltb x (object_count (sheet_held r)) → unwrap_or o (record { producer = 0; consumer = 0; size = 0; delayed = false }) ≡ object (sheet_held r) x → IsObject (sheet_held r) x o
    go None e i = λ l. let t = lt-ltb x (object_count (sheet_held r)) l in cc
    go (Some o) e i = (ltb-true x (object_count (sheet_held r)) (sym e), i)

-- the cores that touch it
pub says_touching : (r : ReadSheet) (x : ℕ) (known : Bool) (answer : Option ℕ) → known ≡ ltb x (vec_len r.objects.list) → is_some answer ≡ known →
    IfSome answer (λ set. set ≡ touching_in (vec_items r.actors) (vec_items r.objects.list) x) → Touch (sheet_held r) x answer
says_touching r x known None k e i = λ l. let t = lt-ltb x (object_count (sheet_held r)) l in let n = object_count_held r in cc
says_touching r x known (Some set) k e i =
    let l : x < object_count (sheet_held r) = ltb-true x (object_count (sheet_held r)) (sym (e ∙ (k ∙ ap (λ n. ltb x n) (object_count_held r)))) in (
      l,
      i ∙ (ap (λ (os : List Object). touching_in (vec_items r.actors) os x) (objects_of_held r) ∙ touching_known (vec_items r.actors) (objects (sheet_held r)) x l),
    )
