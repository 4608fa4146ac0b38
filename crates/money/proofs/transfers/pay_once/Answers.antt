-- What the search does not find alone.
use Rattle.std.proofs.Common.{rules}
use Rattle.money.proofs.Lawful.{payment_lawful}
use Rattle.money.proofs.transfers.pay_once.Goals as goal

pub returns-clause-lawful : goal.returns-clause-lawful
returns-clause-lawful g c = search (rules, payment_lawful c.args.order (g.M.Money.meaning c.args.money.now) (g.M.Money.sound c.args.money.now))
