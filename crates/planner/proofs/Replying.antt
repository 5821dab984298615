-- Answers to questions.
use Rattle.std.proofs.Common.{◌≡◌, ℕ, ◌<◌, Bool, true, false, List, length, get_or, ℤ, pos, ◌-ℤ◌, Some, None, Option, Ok, Result, sym, ap, ◌∙◌, subst}
use Rattle.std.proofs.lemmas.List.{get_or_default}
use Rattle.std.specs.Option.{ok_or}
use Rattle.rules.specs.declared.memory.Object.{Object}
use Rattle.rules.specs.Lean.{produced, consumed}
use Rattle.rules.specs.Sheets.{Sheet, actor_count}
use Rattle.rules.specs.Objects.{object, object_count, touching}
use Rattle.graph.specs.Questions.{IsObject, SaysWhether, Touch}
use Rattle.layout.specs.declared.plan_layout.BankUse.{BankUse}
use Rattle.layout.specs.Worlds.{use_at}
use Rattle.lean.specs.Nets.{IsNet, net_of}
use Rattle.planner.specs.declared.faults.JobFault.{JobFault}
use Rattle.planner.specs.declared.faults.JobFault.TheVariants.{Unknown}
use Rattle.planner.specs.declared.plan.Plan.{Plan}
use Rattle.planner.specs.Replies.{Whether, Replies, RepliesPlaced}

-- whether it is so
pub whether_told : (Known So : Type 0) (o : Option Bool) (r : Result Bool JobFault) → SaysWhether Known So o → r ≡ ok_or o Unknown → Replies Known (Whether So) r
whether_told Known So None r says e = subst (Replies Known (Whether So)) (sym e) (Replies.unknown says)
whether_told Known So (Some true) r says e = subst (Replies Known (Whether So)) (sym e) (Replies.told says.0 says.1)
whether_told Known So (Some false) r says e = subst (Replies Known (Whether So)) (sym e) (Replies.told says.0 says.1)

-- an object of a sheet
pub object_told : (s : Sheet) (x : ℕ) (o : Option Object) (r : Result Object JobFault) → IsObject s x o → r ≡ ok_or o Unknown →
    Replies (x < object_count s) (λ p. p ≡ object s x) r
object_told s x None r says e = subst (Replies (x < object_count s) (λ p. p ≡ object s x)) (sym e) (Replies.unknown says)
object_told s x (Some o) r says e = subst (Replies (x < object_count s) (λ p. p ≡ object s x)) (sym e) (Replies.told says.0 says.1)

-- the cores that touch an object
pub touch_told : (s : Sheet) (x : ℕ) (o : Option ℕ) (r : Result ℕ JobFault) → Touch s x o → r ≡ ok_or o Unknown →
    Replies (x < object_count s) (λ set. set ≡ touching s x) r
touch_told s x None r says e = subst (Replies (x < object_count s) (λ set. set ≡ touching s x)) (sym e) (Replies.unknown says)
touch_told s x (Some set) r says e = subst (Replies (x < object_count s) (λ set. set ≡ touching s x)) (sym e) (Replies.told says.0 says.1)

-- the net change of an actor
pub net_told : (s : Sheet) (a : ℕ) (o : Option ℤ) (r : Result ℤ JobFault) → IsNet s a o → r ≡ ok_or o Unknown →
    Replies (a < actor_count s) (λ n. n ≡ pos (produced s.links a) -ℤ pos (consumed s.links a)) r
net_told s a None r says e = subst (Replies (a < actor_count s) (λ n. n ≡ net_of s.links a)) (sym e) (Replies.unknown says)
net_told s a (Some n) r says e = subst (Replies (a < actor_count s) (λ m. m ≡ net_of s.links a)) (sym e) (Replies.told says.0 says.1)

-- what was found is the value asked for
pub placed_told : {X : Type 0} (p : Plan) (Known : Type 0) (value found : X) → found ≡ value → p.layout.placed ≡ true → Known → RepliesPlaced p Known value (Ok found)
placed_told p Known value found same is_placed known = subst (λ v. RepliesPlaced p Known value (Ok v)) (sym same) (RepliesPlaced.placed is_placed known)

-- the use of a bank that was found
pub use_found : (banks found : List BankUse) (b : ℕ) (used : BankUse) → found ≡ banks → b < length found → used ≡ get_or found b used → used ≡ use_at banks b
use_found banks found b used same l at =
    at ∙ get_or_default found b used (record { capacity = 0; footprint = 0 }) l ∙ ap (λ us. use_at us b) same
