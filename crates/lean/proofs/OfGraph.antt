-- The sheet that a graph holds, listed leanly.
use Rattle.std.proofs.Common.{◌≡◌, ℕ, ◌<◌, ◌≤◌, false, ◌⊎◌, List, length, take, drop, Ok, Err, vec_items, vec_len, sym, refl, ap, ◌∙◌, subst, arith}
use Rattle.std.proofs.lemmas.List.{nil_from_length}
use Rattle.rules.specs.declared.sheet.Layer.{Layer}
use Rattle.rules.specs.declared.sheet.Actor.{Actor}
use Rattle.rules.specs.declared.sheet.Link.{Link}
use Rattle.rules.specs.Drafts.{sheet}
use Rattle.rules.specs.Lean.{Lean, Peak}
use Rattle.rules.specs.Objects.{objects}
use Rattle.rules.specs.Sheets.{Sheet, actor_count}
use Rattle.words.specs.Words.{bit}
use Rattle.graph.specs.declared.read_sheet.ReadSheet.{ReadSheet}
use Rattle.graph.specs.declared.stage.Stage.{Stage}
use Rattle.graph.specs.declared.stage.Stage.TheVariants.{Blank, Machined, Ruled}
use Rattle.graph.specs.Readings.{Holds}
use Rattle.graph.specs.Stages.{is_ruled}
use Rattle.graph.specs.Taking.{draft_from}
use Rattle.graph.proofs.Sheeted.{count_is, links_are, objects_are, rows_heard, rows_meant, sheet_ordered}
use Rattle.lean.specs.declared.faults.LeanFault.TheVariants.{Empty, ShortMemory}
use Rattle.lean.specs.declared.ready.ReadyActor.{ReadyActor}
use Rattle.lean.specs.Leaning.{Leans, none_held, short_memory, lists}
use Rattle.lean.specs.Totals.{totals, highest}
use Rattle.lean.specs.Waiting.{Describes}
use Rattle.lean.proofs.Peaked.{peak_is}

-- where there is an actor, the head was read, and a sheet is held
held : (stage : Stage) (layers : List Layer) (actors : List Actor) (links : List Link) (count : ℕ) → 0 < count → (is_ruled stage ≡ false → count ≡ 0) →
    (s : Sheet) × (draft_from stage layers actors links ≡ sheet s)
held Blank layers actors links count some headed = absurd (let none = headed refl in omega arith)
held (Machined m) layers actors links count some headed = absurd (let none = headed refl in omega arith)
held (Ruled m f) layers actors links count some headed = (record { machine = m; fit = f; layers = layers; actors = actors; links = links }, refl)

pub sheet_held : (r : ReadSheet) → 0 < vec_len r.actors → (s : Sheet) × Holds r s
sheet_held r some = held r.stage (vec_items r.layers) (vec_items r.actors) (vec_items r.links.list) (vec_len r.actors) some (λ e. (r.headed e).1)

module _ (r : ReadSheet) (slots slots' : List ReadyActor) (before after : List ℕ) where
  -- no actor, no sheet
  pub ends_empty : vec_len r.actors ≡ 0 → slots' ≡ slots → after ≡ before → Leans r slots slots' before after (Err Empty)
  ends_empty none same-slots same = none_held (λ s holds. nil_from_length s.actors (sym (count_is r s holds) ∙ none)) same-slots same

  -- too little memory
  pub ends_short : 0 < vec_len r.actors → (length slots < vec_len r.actors) ⊎ (length before < vec_len r.actors) → slots' ≡ slots → after ≡ before →
      Leans r slots slots' before after (Err ShortMemory)
  ends_short some short same-slots same =
      let h = sheet_held r some in
      let c = count_is r h.0 h.1 in
      short_memory h.0 h.1 (subst (λ n. 0 < n) c some) (subst (λ n. (length slots < n) ⊎ (length before < n)) c short) same-slots same

  -- the listing, with its peak
  pub ends_listed : 0 < vec_len r.actors → vec_len r.actors ≤ length slots → vec_len r.actors ≤ length before → (n p : ℕ) → n ≡ vec_len r.actors →
      ((s : Sheet) → Describes (vec_items r.links.list) r.links.order.rows n s → Lean s (take n after)) →
      p ≡ highest 0 (totals (vec_items r.objects.list) (bit 0) (take n after)) → drop n after ≡ drop n before →
      Leans r slots slots' before after (Ok (record { actors = n; peak = p }))
  ends_listed some room space n p counted lean high rest =
      let h = sheet_held r some in
      let s = h.0 in
      let c = count_is r s h.1 in
      let is_lean : Lean s (take n after) = lean s (record {
        links_are = links_are r s h.1;
        count_is = counted ∙ c;
        ordered = sheet_ordered r s h.1;
        heard = rows_heard r s h.1;
        meant = rows_meant r s h.1;
      }) in
      let few = r.few in
      let found : 0 < actor_count s = subst (λ k. 0 < k) c some in
      let top : highest 0 (totals (objects s) (bit 0) (take n after)) ≡ p = ap (λ os. highest 0 (totals os (bit 0) (take n after))) (sym (objects_are r s h.1)) ∙ sym high in
      lists s h.1 found (subst (λ k. k ≤ length slots) c room) (subst (λ k. k ≤ length before) c space)
      (record {
        all = counted ∙ c;
        lean = is_lean;
        rest = rest;
        peak = subst (Peak s (take n after)) top (peak_is s (subst (λ k. k ≤ 64) c few) found (take n after) is_lean);
      })
