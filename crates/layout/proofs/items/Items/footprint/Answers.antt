use Rattle.std.proofs.Common.{◌∙◌, sym, rules, tests}
use Rattle.std.proofs.lemmas.Iterator.{YieldsList-from_slice, YieldsList-from_map}
use Rattle.std.proofs.lemmas.Iterator.Consumers.{YieldsList-at, max_from_yields_List}
use Rattle.layout.specs.declared.items.Item.{Item}
use Rattle.layout.proofs.Ends.{highest_from, by_itself}
use Rattle.layout.proofs.items.Items.footprint.Goals as goal

pub returns : goal.returns
returns c =
    let most = max_from_yields_List _ c.max.result c.max.ensures.ran
    (YieldsList-from_map _ (λ (it : Item). it.on.end) (YieldsList-at c.map.ensures.source (YieldsList-from_slice c.args.self.now.list.items (c.iter.ensures.rest ∙ c.deref.ensures.value))) c.map.ensures.closure (λ x b q k. search (rules, tests))) in
    highest_from c.args.self.now.list.items c.max.result c.unwrap_or.result (sym (by_itself c.max.result) ∙ most) c.unwrap_or.ensures
