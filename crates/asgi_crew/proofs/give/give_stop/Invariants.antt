use Rattle.std.proofs.Common.{◌≡◌}
use Rattle.crossbeam_channel.specs.Claims.{view, IsSeatAt}
use Rattle.crossbeam_channel.specs.Ends.{sends_on}
use Rattle.asgi_crew.specs.declared.channel.Mark.TheVariants.{Stop}
use Rattle.asgi_crew.proofs.give.give_stop.Given as goal

abbrev pub invariant-loop : goal.invariant-loop
invariant-loop g l = record {
  seat : IsSeatAt (sends_on l.to) l.pass;
  same : view l.pass ≡ view l.fn.pass;
  mark : l.mark ≡ Stop;
}
