-- The fault of an application that a refused field is.
use Rattle.asgi_types.specs.declared.headers.HeaderError.{HeaderError}
use Rattle.asgi_types.specs.declared.headers.HeaderError.TheVariants.{BadName, BadValue, NoMemory}
use Rattle.asgi_apps.specs.declared.task.AppFault.{AppFault}
use Rattle.asgi_apps.specs.declared.task.AppFault.TheVariants as fault

-- a name or a value that is no valid one is the application's own failure, and want of memory stays that
abbrev pub fault_of : HeaderError → AppFault
fault_of BadName = fault.Failed
fault_of BadValue = fault.Failed
fault_of (NoMemory error) = fault.NoMemory error
