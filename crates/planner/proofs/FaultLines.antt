-- The text of a fault line, with its line end, is the line of the table.
use Rattle.std.proofs.Common.{◌≡◌, ℕ, List, [], ◌∷◌, ◌++◌, Some, None, decimal, Option, sym, refl, ap, ◌∙◌}
use Rattle.std.proofs.lemmas.List.{append_assoc}
use Rattle.rules.specs.Refusals.{field, fault_line}
use Rattle.planner.specs.declared.faults.Report.{Report}
use Rattle.planner.specs.Reports.{as_tabled, field_text, fault_text}

field_is : (o : Option ℕ) → field o ≡ 32 ∷ field_text o
field_is None = refl
field_is (Some n) = refl

-- a field, and the line end behind what follows it
behind : (xs ys zs : List ℕ) → ys ++ 10 ∷ [] ≡ zs → (xs ++ (32 ∷ ys)) ++ 10 ∷ [] ≡ xs ++ (32 ∷ zs)
behind xs ys zs e = append_assoc xs (32 ∷ ys) (10 ∷ []) ∙ ap (λ more. xs ++ (32 ∷ more)) e

-- a field that may not stand
standing : (o : Option ℕ) (xs ys : List ℕ) → xs ≡ ys → field o ++ xs ≡ 32 ∷ (field_text o ++ ys)
standing o xs ys e = ap (λ f. f ++ xs) (field_is o) ∙ ap (λ more. 32 ∷ (field_text o ++ more)) e

pub line_of_text : (r : Report) → fault_line (as_tabled r) ≡ fault_text r ++ 10 ∷ []
line_of_text r =
    let bank = field_text r.bank in
    let object = field_text r.object in
    let line = field_text r.line in
    let end : List ℕ = 10 ∷ [] in
    let fields : field r.line ++ (field r.object ++ (field r.bank ++ end)) ≡ 32 ∷ (line ++ (32 ∷ (object ++ (32 ∷ (bank ++ end))))) =
    standing r.line (field r.object ++ (field r.bank ++ end)) (32 ∷ (object ++ (32 ∷ (bank ++ end))))
    (standing r.object (field r.bank ++ end) (32 ∷ (bank ++ end)) (standing r.bank end end refl)) in
    let texts : (decimal r.number ++ (32 ∷ (decimal r.layer ++ (32 ∷ (line ++ (32 ∷ (object ++ (32 ∷ bank)))))))) ++ end
    ≡ decimal r.number ++ (32 ∷ (decimal r.layer ++ (32 ∷ (line ++ (32 ∷ (object ++ (32 ∷ (bank ++ end)))))))) =
    behind (decimal r.number) (decimal r.layer ++ (32 ∷ (line ++ (32 ∷ (object ++ (32 ∷ bank)))))) (decimal r.layer ++ (32 ∷ (line ++ (32 ∷ (object ++ (32 ∷ (bank ++ end)))))))
    (behind (decimal r.layer) (line ++ (32 ∷ (object ++ (32 ∷ bank)))) (line ++ (32 ∷ (object ++ (32 ∷ (bank ++ end)))))
    (behind line (object ++ (32 ∷ bank)) (object ++ (32 ∷ (bank ++ end)))
    (behind object bank (bank ++ end) refl))) in
    ap (λ more. 69 ∷ (32 ∷ (decimal r.number ++ (32 ∷ (decimal r.layer ++ more))))) fields
    ∙ ap (λ more. 69 ∷ (32 ∷ more)) (sym texts)
