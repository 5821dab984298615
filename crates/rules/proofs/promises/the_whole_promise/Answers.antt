use Rattle.rules.proofs.promises.the_whole_promise.Goals as goal
use Rattle.rules.proofs.Promising.{the_whole_promise}

pub returns : goal.returns
returns c = the_whole_promise
