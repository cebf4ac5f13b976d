use Rattle.asgi_command.proofs.ServingLemmas.{as_named, once_mounted}
use Rattle.asgi_command.proofs.program.once_by.Goals as goal

pub returns-in-Hello : goal.returns-in-Hello
returns-in-Hello g c = as_named _ _ _ _ _ c.in-Hello.is c.once.ensures

pub returns-in-Echo : goal.returns-in-Echo
returns-in-Echo g c = as_named _ _ _ _ _ c.in-Echo.is c.once-in-Echo.ensures

pub returns-in-NotFound : goal.returns-in-NotFound
returns-in-NotFound g c = as_named _ _ _ _ _ c.in-NotFound.is c.once-in-NotFound.ensures

pub returns-in-WsEcho : goal.returns-in-WsEcho
returns-in-WsEcho g c = as_named _ _ _ _ _ c.in-WsEcho.is c.once-in-WsEcho.ensures

pub returns-in-Ok : goal.returns-in-Ok
returns-in-Ok g c = once_mounted _ c.in-Ok.app.mounts.items _ _ _ c.in-Mounts.is c.in-Ok.ensures c.once-in-Ok.ensures

pub returns-in-Life : goal.returns-in-Life
returns-in-Life g c = as_named _ _ _ _ _ c.in-Life.is c.once-in-Life.ensures

pub returns-in-NoStart : goal.returns-in-NoStart
returns-in-NoStart g c = as_named _ _ _ _ _ c.in-NoStart.is c.once-in-NoStart.ensures

pub returns-in-NoStop : goal.returns-in-NoStop
returns-in-NoStop g c = as_named _ _ _ _ _ c.in-NoStop.is c.once-in-NoStop.ensures
