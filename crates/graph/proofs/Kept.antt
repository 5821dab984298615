-- Rows that are kept, one for each object.
use Rattle.std.proofs.Common.{◌≡◌, ℕ, ◌+◌, ◌<◌, Bool, List, [], ◌∷◌, ◌++◌, map, length, get_or, sym, ap, ◌∙◌, subst, below_more}
use Rattle.std.proofs.lemmas.List.{map_push, get_or_append_left, get_or_push, length-map}
use Rattle.graph.specs.declared.row.Row.{Row}
use Rattle.graph.specs.Rows.{in_row}
use Rattle.graph.specs.RowBits.{row_bit}

-- rows that are right stay so with one row more
pub rows_more : (rows grown : List Row) (r : Row) (test : ℕ → ℕ → Bool) → grown ≡ rows ++ r ∷ [] → ((z y : ℕ) → z < length rows → row_bit rows z y ≡ test z y)
    → ((y : ℕ) → in_row r.words y ≡ test (length rows) y) → (z y : ℕ) → z < length rows + 1 → row_bit grown z y ≡ test z y
rows_more rows grown r test e so own z y h =
    subst (λ qs. row_bit qs z y ≡ test z y) (sym e)
    (below_more (λ k. row_bit (rows ++ r ∷ []) k y ≡ test k y) (length rows)
    (λ k l. ap (λ ws. in_row (get_or ws k []) y) (map_push (λ (q : Row). q.words) rows r)
    ∙ (ap (λ ws. in_row ws y) (get_or_append_left (map (λ (q : Row). q.words) rows) (r.words ∷ []) [] k (subst (λ n. k < n) (sym (length-map rows (λ (q : Row). q.words))) l)) ∙ so k y l))
    (ap (λ ws. in_row (get_or ws (length rows) []) y) (map_push (λ (q : Row). q.words) rows r)
    ∙ (ap (λ ws. in_row ws y) (get_or_push (map (λ (q : Row). q.words) rows) r.words [] (length rows) (length-map rows (λ (q : Row). q.words))) ∙ own y))
    z h)
