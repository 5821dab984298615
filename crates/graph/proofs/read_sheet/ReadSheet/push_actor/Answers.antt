use Rattle.std.proofs.Common.{◌++◌, vec_items, vec_len, sym, ap, ◌∙◌, arith}
use Rattle.std.proofs.lemmas.List.{append-nil, nil_from_length}
use Rattle.graph.specs.Seats.{all_known}
use Rattle.graph.proofs.Seated.{one_more}
use Rattle.graph.proofs.Listed.{actor_pushed, some_area, no_area}
use Rattle.graph.proofs.read_sheet.ReadSheet.push_actor.Goals as goal

pub invariant_of-self-clause-listed : goal.invariant_of-self-clause-listed
invariant_of-self-clause-listed c =
    let s = c.args.self.now in
    let links = nil_from_length (vec_items s.links.list) (sym s.links.list.ok.0 ∙ c.requires.first) in
    actor_pushed (vec_items s.objects.list) (vec_items c.push.new.self.list) (vec_items s.actors) (vec_items c.push_reserved.new.self) (vec_items s.links.list) c.args.actor s.listed links
    (c.push.ensures.items ∙ ap (λ os. vec_items s.objects.list ++ os) (some_area _ _ c.args.actor.work (c.len-number.ensures ∙ s.actors.ok.0) c.if-actor-gt0.true)) c.push_reserved.ensures.items

pub invariant_of-self-else-actor-gt0-clause-listed : goal.invariant_of-self-else-actor-gt0-clause-listed
invariant_of-self-else-actor-gt0-clause-listed c =
    let s = c.args.self.now in
    let links = nil_from_length (vec_items s.links.list) (sym s.links.list.ok.0 ∙ c.requires.first) in
    actor_pushed (vec_items s.objects.list) (vec_items s.objects.list) (vec_items s.actors) (vec_items c.push_reserved.new.self) (vec_items s.links.list) c.args.actor s.listed links
    (sym (append-nil (vec_items s.objects.list)) ∙ ap (λ os. vec_items s.objects.list ++ os) (no_area _ c.args.actor.work (omega arith))) c.push_reserved.ensures.items

pub invariant_of-self-clause-seated : goal.invariant_of-self-clause-seated
invariant_of-self-clause-seated c = one_more 8 (vec_items c.args.self.now.actors) (vec_items c.push_reserved.new.self) c.args.actor c.args.self.now.seated c.requires.seated c.push_reserved.ensures.items

pub invariant_of-self-clause-known : goal.invariant_of-self-clause-known
invariant_of-self-clause-known c =
    let s = c.args.self.now in
    ap (λ ks. all_known (vec_len c.push_reserved.new.self) ks) (nil_from_length (vec_items s.links.list) (sym s.links.list.ok.0 ∙ c.requires.first))

pub invariant_of-self-else-actor-gt0-clause-seated : goal.invariant_of-self-else-actor-gt0-clause-seated
invariant_of-self-else-actor-gt0-clause-seated c = one_more 8 (vec_items c.args.self.now.actors) (vec_items c.push_reserved.new.self) c.args.actor c.args.self.now.seated c.requires.seated c.push_reserved.ensures.items

pub invariant_of-self-else-actor-gt0-clause-known : goal.invariant_of-self-else-actor-gt0-clause-known
invariant_of-self-else-actor-gt0-clause-known c =
    let s = c.args.self.now in
    ap (λ ks. all_known (vec_len c.push_reserved.new.self) ks) (nil_from_length (vec_items s.links.list) (sym s.links.list.ok.0 ∙ c.requires.first))
