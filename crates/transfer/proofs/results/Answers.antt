use Rattle.transfer.proofs.TransferTests.{difference_is}
use Rattle.transfer.proofs.results.Goals as goal

pub returns-in-Sub : goal.returns-in-Sub
returns-in-Sub c =
    let p = c.requires in
    rw (c.in-Sub.is, difference_is p.0.0 p.1.1, difference_is p.0.1 p.1.0)
