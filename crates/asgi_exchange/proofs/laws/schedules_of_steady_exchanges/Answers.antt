use Rattle.asgi_exchange.proofs.laws.schedules_of_steady_exchanges.Goals as goal
use Rattle.asgi_exchange.proofs.ScheduleLemmas.{every_run, both_runs_make, met_makes, run_keeps, goes_on_keeps}

pub returns-clause-schedules : goal.returns-clause-schedules
returns-clause-schedules g c x s steps = every_run x s steps

pub returns-clause-halves : goal.returns-clause-halves
returns-clause-halves g c x s conn_steps app_steps places_in places_out left_in left_out inward outward =
    both_runs_make x s conn_steps app_steps places_in places_out left_in left_out inward outward

pub returns-clause-met : goal.returns-clause-met
returns-clause-met g c x s conn said ended pulled heard places_in places_out left_in left_out kept inward outward h lawful =
    met_makes x s conn said ended pulled heard places_in places_out left_in left_out kept inward outward h lawful

pub returns-clause-runs : goal.returns-clause-runs
returns-clause-runs g c x s steps = run_keeps x s steps

pub returns-clause-goes_on : goal.returns-clause-goes_on
returns-clause-goes_on g c x s old new kept goes = goes_on_keeps x s old new kept goes
