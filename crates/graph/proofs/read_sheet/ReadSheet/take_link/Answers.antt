use Rattle.std.proofs.Common.{◌++◌, vec_items, vec_len, sym, ap, ◌∙◌}
use Rattle.std.proofs.lemmas.List.{append-nil}
use Rattle.graph.specs.Taking.{draft_of}
use Rattle.graph.proofs.Listed.{link_pushed}
use Rattle.graph.proofs.Known.{link_more}
use Rattle.graph.proofs.Counted.{peopled, ends_known, few_after, joinable, object_sized}
use Rattle.graph.proofs.read_sheet.ReadSheet.take_link.Goals as goal

pub push-requires-clause-few : goal.push-requires-clause-few
push-requires-clause-few c = few_after c.args.self.now c.args.link c.in_ok-judge.ensures

pub push-requires-clause-allowed : goal.push-requires-clause-allowed
push-requires-clause-allowed c = joinable c.args.self.now c.args.link c.in_ok-judge.ensures

pub push-requires-in-Some-clause-filled : goal.push-requires-in-Some-clause-filled
push-requires-in-Some-clause-filled c = (object_sized (draft_of c.args.self.now) c.args.link c.in-Some.object c.in_ok-judge.ensures c.in-Some.ensures).0

pub push-requires-in-Some-clause-small : goal.push-requires-in-Some-clause-small
push-requires-in-Some-clause-small c = (object_sized (draft_of c.args.self.now) c.args.link c.in-Some.object c.in_ok-judge.ensures c.in-Some.ensures).1

pub invariant_of-self-clause-peopled : goal.invariant_of-self-clause-peopled
invariant_of-self-clause-peopled c = λ none. absurd (peopled c.args.self.now c.args.link c.in_ok-judge.ensures none)

pub invariant_of-self-clause-listed : goal.invariant_of-self-clause-listed
invariant_of-self-clause-listed c =
    let s = c.args.self.now in
    link_pushed (vec_items s.objects.list) (vec_items c.push-in-Some.new.self.list) (vec_items s.actors) (vec_items s.links.list) (vec_items c.push.new.self.list) c.args.link s.listed
    (c.push-in-Some.ensures.items ∙ ap (λ os. vec_items s.objects.list ++ os) (sym c.in-Some.ensures)) c.push.ensures.items

pub invariant_of-self-in_default-clause-peopled : goal.invariant_of-self-in_default-clause-peopled
invariant_of-self-in_default-clause-peopled c = λ none. absurd (peopled c.args.self.now c.args.link c.in_ok-judge.ensures none)

pub invariant_of-self-in_default-clause-listed : goal.invariant_of-self-in_default-clause-listed
invariant_of-self-in_default-clause-listed c =
    let s = c.args.self.now in
    link_pushed (vec_items s.objects.list) (vec_items s.objects.list) (vec_items s.actors) (vec_items s.links.list) (vec_items c.push.new.self.list) c.args.link s.listed
    (sym (append-nil (vec_items s.objects.list)) ∙ ap (λ os. vec_items s.objects.list ++ os) (sym c.in_default.ensures)) c.push.ensures.items

pub invariant_of-self-clause-known : goal.invariant_of-self-clause-known
invariant_of-self-clause-known c =
    let s = c.args.self.now in
    let ends = ends_known s c.args.link c.in_ok-judge.ensures in
    link_more (vec_len s.actors) (vec_items s.links.list) (vec_items c.push.new.self.list) c.args.link s.known ends.0 ends.1 c.push.ensures.items

pub invariant_of-self-in_default-clause-known : goal.invariant_of-self-in_default-clause-known
invariant_of-self-in_default-clause-known c =
    let s = c.args.self.now in
    let ends = ends_known s c.args.link c.in_ok-judge.ensures in
    link_more (vec_len s.actors) (vec_items s.links.list) (vec_items c.push.new.self.list) c.args.link s.known ends.0 ends.1 c.push.ensures.items
