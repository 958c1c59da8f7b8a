use Rattle.meaning.proofs.Orders.{orders_agree}
use Rattle.meaning.proofs.orders_agree.Goals as goal

pub returns : goal.returns
returns c = orders_agree
