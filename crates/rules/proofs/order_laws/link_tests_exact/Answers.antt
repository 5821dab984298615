use Rattle.rules.proofs.order_laws.link_tests_exact.Goals as goal
use Rattle.rules.proofs.Joining.{link_tests_exact}

pub returns : goal.returns
returns c = link_tests_exact
