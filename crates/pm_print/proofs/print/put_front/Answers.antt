use Rattle.pm_print.proofs.print.put_front.Goals as goal

pub returns-in-ResponseRefused : goal.returns-in-ResponseRefused
returns-in-ResponseRefused g c = let is = c.in-ResponseRefused.is in rw is (c.put_response.ensures c.in-ResponseRefused.why)
