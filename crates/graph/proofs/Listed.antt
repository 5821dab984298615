-- The objects of a sheet as lines come.
use Rattle.std.proofs.Common.{◌≡◌, ℕ, zero, suc, ◌+◌, ◌<◌, true, false, cond, List, [], ◌∷◌, ◌++◌, length, sym, refl, ap, ◌∙◌, arith, ne_eqb}
use Rattle.std.proofs.lemmas.List.{append_assoc, append-nil}
use Rattle.rules.specs.declared.memory.Object.{Object}
use Rattle.rules.specs.declared.sheet.Actor.{Actor}
use Rattle.rules.specs.declared.sheet.Link.{Link}
use Rattle.rules.specs.declared.sheet.Link.TheVariants.{Plain, Delayed, Ordered}
use Rattle.rules.specs.Objects.{area_of, areas, buffer, buffers}
use Rattle.graph.specs.Sizes.{objects_in}

-- one actor more
areas_more : (n : ℕ) (actors : List Actor) (a : Actor) → areas n (actors ++ a ∷ []) ≡ areas n actors ++ area_of (n + length actors) a.work
areas_more n [] a = append-nil (area_of n a.work) ∙ ap (λ m. area_of m a.work) (let e : n ≡ n + length {A = Actor} [] = omega arith in e)
areas_more n (x ∷ xs) a =
    ap (λ os. area_of n x.work ++ os) (areas_more (suc n) xs a)
    ∙ (sym (append_assoc (area_of n x.work) (areas (suc n) xs) (area_of (suc n + length xs) a.work))
    ∙ ap (λ m. (area_of n x.work ++ areas (suc n) xs) ++ area_of m a.work) (let e : suc n + length xs ≡ n + length (x ∷ xs) = omega arith in e))

pub actor_listed : (actors : List Actor) (a : Actor) → objects_in (actors ++ a ∷ []) [] ≡ objects_in actors [] ++ area_of (length actors) a.work
actor_listed actors a =
    append-nil (areas zero (actors ++ a ∷ []))
    ∙ (areas_more zero actors a
    ∙ (ap (λ m. areas zero actors ++ area_of m a.work) (let e : zero + length actors ≡ length actors = omega arith in e)
    ∙ ap (λ os. os ++ area_of (length actors) a.work) (sym (append-nil (areas zero actors)))))

-- one link more
buffers_more : (ks : List Link) (k : Link) → buffers (ks ++ k ∷ []) ≡ buffers ks ++ buffers (k ∷ [])
buffers_more [] k = refl
buffers_more (Plain f ∷ ks) k = ap (λ os. buffer f false ∷ os) (buffers_more ks k)
buffers_more (Delayed f ∷ ks) k = ap (λ os. buffer f true ∷ os) (buffers_more ks k)
buffers_more (Ordered q ∷ ks) k = buffers_more ks k

pub link_listed : (actors : List Actor) (ks : List Link) (k : Link) → objects_in actors (ks ++ k ∷ []) ≡ objects_in actors ks ++ buffers (k ∷ [])
link_listed actors ks k =
    ap (λ os. areas zero actors ++ os) (buffers_more ks k) ∙ sym (append_assoc (areas zero actors) (buffers ks) (buffers (k ∷ [])))

-- the objects are those of the actors and links again, with one actor more
pub actor_pushed : (os grown : List Object) (actors more : List Actor) (links : List Link) (a : Actor) → os ≡ objects_in actors links → links ≡ [] →
    grown ≡ os ++ area_of (length actors) a.work → more ≡ actors ++ a ∷ [] → grown ≡ objects_in more links
actor_pushed os grown actors more links a same none pushed added = let listed = actor_listed actors a in cc

-- and with one link more
pub link_pushed : (os grown : List Object) (actors : List Actor) (links more : List Link) (k : Link) → os ≡ objects_in actors links →
    grown ≡ os ++ buffers (k ∷ []) → more ≡ links ++ k ∷ [] → grown ≡ objects_in actors more
link_pushed os grown actors links more k same pushed added = let listed = link_listed actors links k in cc

-- the working area of an actor with work, and that of one without
pub some_area : (n m work : ℕ) → n ≡ m → 0 < work → record { producer = n; consumer = n; size = work; delayed = false } ∷ [] ≡ area_of m work
some_area n m work same some =
    ap (λ i. record { producer = i; consumer = i; size = work; delayed = false } ∷ []) same
    ∙ sym (ap (λ b. cond b [] (record { producer = m; consumer = m; size = work; delayed = false } ∷ [])) (ne_eqb work 0 (λ e. omega arith)))

pub no_area : (n work : ℕ) → work ≡ 0 → [] ≡ area_of n work
no_area n work none = sym (ap (λ w. area_of n w) none)
