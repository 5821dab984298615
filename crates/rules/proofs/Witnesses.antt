-- The witness of a list of objects: there is one, and only one.
use Rattle.std.proofs.Common.{◌≡◌, ℕ, zero, suc, ◌+◌, ◌<◌, ◌≤◌, List, [], ◌∷◌, ◌++◌, map, sym, refl, subst, inl, inr, arith}
use Rattle.std.proofs.ByRecursion.{All-weaker}
use Rattle.rules.specs.Lists.{Every, ◌∈◌, AscendingNumbers}
use Rattle.rules.specs.Sheets.{Sheet, actor_count}
use Rattle.rules.specs.Order.{OrderedSheet}
use Rattle.rules.specs.Objects.{object_count}
use Rattle.rules.specs.Runs.{Call, start}
use Rattle.rules.specs.Lives.{Firing, over, fire, Witness}
use Rattle.rules.proofs.Members.{all_at}
use Rattle.rules.proofs.Deciding.{Decided, both, not, same_number, same_lowest}
use Rattle.rules.proofs.Firings.{opener, needed, opener_known, some_firing}
use Rattle.rules.proofs.Granting.{Extra}

-- there is one firing
pub same_firing : (s : Sheet) (xs : List ℕ) {fired : List ℕ} {cs ds : List Call} → Firing s xs fired cs → Firing s xs fired ds → cs ≡ ds
same_firing s xs (over none) (over none') = refl
same_firing s xs (over none) (fire a low rest) = absurd (none a low.holds)
same_firing s xs (fire a low rest) (over none) = absurd (none a low.holds)
same_firing s xs (fire {fired} {cs} a low rest) (fire {cs = ds} b low' rest') =
    let e : a ≡ b = same_lowest low low' in
    let f : Firing s xs (a ∷ fired) ds = subst (λ (c : ℕ). Firing s xs (c ∷ fired) ds) (sym e) rest' in
    let g : cs ≡ ds = same_firing s xs rest f in
    cc

-- ascending lists with the same members are equal
pub same_ascending : (ms ns : List ℕ) → AscendingNumbers ms → AscendingNumbers ns →
    ((a : ℕ) → a ∈ ms → a ∈ ns) → ((a : ℕ) → a ∈ ns → a ∈ ms) → ms ≡ ns
same_ascending [] [] up up' to back = refl
same_ascending [] (n ∷ ns) up up' to back = absurd (back n (inl refl))
same_ascending (m ∷ ms) [] up up' to back = absurd (to m (inl refl))
same_ascending (m ∷ ms) (n ∷ ns) up up' to back =
    let e : m ≡ n = heads (to m (inl refl)) (back n (inl refl)) in
    let f : ms ≡ ns = same_ascending ms ns up.1 up'.1 (λ a k. tail e a k (to a (inr k))) (λ a k. tail' e a k (back a (inr k))) in
    cc
  where
    heads : m ∈ (n ∷ ns) → n ∈ (m ∷ ms) → m ≡ n
    heads (inl e) k = e
    heads (inr j) (inl e) = sym e
    heads (inr j) (inr k) =
        let l = all_at (λ b. n < b) m ns j up'.0 in let r = all_at (λ b. m < b) n ms k up.0 in absurd (omega arith)

    tail : m ≡ n → (a : ℕ) → a ∈ ms → a ∈ (n ∷ ns) → a ∈ ns
    tail e a k (inl f) = let l = all_at (λ b. m < b) a ms k up.0 in absurd (omega arith)
    tail e a k (inr j) = j

    tail' : m ≡ n → (a : ℕ) → a ∈ ns → a ∈ (m ∷ ms) → a ∈ ms
    tail' e a k (inl f) = let l = all_at (λ b. n < b) a ns k up'.0 in absurd (omega arith)
    tail' e a k (inr j) = j

-- the numbers of a run, as many as `count` from `low` on, of which P holds
pub record Those (P : ℕ → Type 0) (low count : ℕ) : Type 0 where
  pub list : List ℕ
  pub ascending : AscendingNumbers list
  pub from_low : Every (λ a. low ≤ a) list
  pub sound : (a : ℕ) → a ∈ list → P a
  pub complete : (a : ℕ) → P a → low ≤ a → a < low + count → a ∈ list

-- there is such a list
unfoldable pub those : (P : ℕ → Type 0) → ((a : ℕ) → Decided (P a)) → (low count : ℕ) → Those P low count
those P each low zero =
    record { list = []; ascending = tt; from_low = tt; sound = λ a m. absurd m; complete = λ a p l u. absurd (omega arith) }
those P each low (suc count) = add (each low) (those P each (suc low) count)
  where
    raised : (ns : List ℕ) → Every (λ a. suc low ≤ a) ns → Every (λ a. low ≤ a) ns
    raised ns h = All-weaker (λ a. suc low ≤ a) (λ a. low ≤ a) (λ a l. omega arith) ns h

    add : Decided (P low) → Those P (suc low) count → Those P low (suc count)
    add (inl p) t =
        record {
          list = low ∷ t.list;
          ascending = (t.from_low, t.ascending);
          from_low = (omega arith, raised t.list t.from_low);
          sound = λ a m. elim m [ inl e ↦ subst P (sym e) p | inr k ↦ t.sound a k ];
          complete = λ a q l u. elim (same_number a low) [ inl e ↦ inl e | inr d ↦ inr (t.complete a q (omega arith) (omega arith)) ];
        }
    add (inr n) t =
        record {
          list = t.list;
          ascending = t.ascending;
          from_low = raised t.list t.from_low;
          sound = t.sound;
          complete = λ a q l u. elim (same_number a low) [ inl e ↦ absurd (n (subst P e q)) | inr d ↦ t.complete a q (omega arith) (omega arith) ];
        }

-- the witness of a list of objects
unfoldable pub some_witness : (s : Sheet) → OrderedSheet s → (xs : List ℕ) → Every (λ x. x < object_count s) xs → (cs : List Call) × Witness s xs cs
unfolding some_firing those both not opener needed
some_witness s sound xs known =
    let f = some_firing s sound xs in
    let t = those (Extra s xs) (λ a. both (opener s xs a) (λ o. not (needed s xs a))) 0 (actor_count s) in (
      f.0 ++ map (λ a. start a) t.list,
      record {
        fires = f.0;
        openers = t.list;
        firing = f.1;
        ascending = t.ascending;
        all_openers = λ a. (t.sound a, λ e. let k = opener_known s sound xs known e.0 in t.complete a e (omega arith) (omega arith));
        whole = refl;
      },
    )

-- there is one witness
pub same_witness : (s : Sheet) (xs : List ℕ) {cs ds : List Call} → Witness s xs cs → Witness s xs ds → cs ≡ ds
same_witness s xs v w =
    let e = same_firing s xs v.firing w.firing in
    let to : (a : ℕ) → a ∈ v.openers → a ∈ w.openers = λ a m. (w.all_openers a).1 ((v.all_openers a).0 m) in
    let back : (a : ℕ) → a ∈ w.openers → a ∈ v.openers = λ a m. (v.all_openers a).1 ((w.all_openers a).0 m) in
    let f = same_ascending v.openers w.openers v.ascending w.ascending to back in
    let p = v.whole in
    let q = w.whole in
    cc
