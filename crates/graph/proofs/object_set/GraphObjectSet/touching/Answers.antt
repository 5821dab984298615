use Rattle.std.proofs.Common.{◌≡◌, ℕ, ◌^◌, ◌<◌, vec_items, rules}
use lib.Bits.{bit_or}
use Rattle.std.specs.Prelude.{MatchOption}
use Rattle.rules.specs.Sheets.{core_in}
use Rattle.graph.proofs.Seated.{touching_found}
use Rattle.graph.proofs.object_set.GraphObjectSet.touching.Goals as goal

pub returns : goal.returns
returns c =
    let s = c.args.self.now.sheet in
    let actors = vec_items s.actors in
    let is : MatchOption c.get.result (c.map_or.result ≡ 0)
    (λ o. (a b : ℕ) × (a ≡ core_in actors o.now.producer) × (b ≡ core_in actors o.now.consumer) × (a < 64 → b < 64 → c.map_or.result ≡ bit_or (2 ^ a) (2 ^ b))) = search rules in
    let at = c.get.ensures.lookup in
    touching_found (λ o. o.now) actors (vec_items s.objects.list) c.as_slice-objects.result.now c.args.x c.map_or.result c.get.result s.seated c.as_slice-objects.ensures.value at.1 at.3 is
