-- The fault of an application that a route is which was not added.
use Rattle.asgi_apps.specs.declared.task.AppFault.{AppFault}
use Rattle.asgi_apps.specs.declared.task.AppFault.TheVariants as fault
use Rattle.asgi_routes.specs.declared.error.RouteError.{RouteError}
use Rattle.asgi_routes.specs.declared.error.RouteError.TheVariants.{BadParameter, TwoParameters, BadCatchAll, Conflict, Taken, NoMemory}

-- a pattern that is no good, or is there already, is the application's own failure, and want of memory stays that
abbrev pub fault_of : RouteError → AppFault
fault_of BadParameter = fault.Failed
fault_of TwoParameters = fault.Failed
fault_of BadCatchAll = fault.Failed
fault_of Conflict = fault.Failed
fault_of Taken = fault.Failed
fault_of (NoMemory error) = fault.NoMemory error
