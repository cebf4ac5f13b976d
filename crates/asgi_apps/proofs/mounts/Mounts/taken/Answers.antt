use Rattle.asgi_apps.specs.Mounts.{local_path, prefixes_of}
use Rattle.asgi_apps.proofs.MountLemmas.{found_within, not_found}
use Rattle.asgi_apps.proofs.mounts.Mounts.taken.Goals as goal

pub returns-in-Http-clause-none : goal.returns-in-Http-clause-none
returns-in-Http-clause-none g c =
    rw c.in-Http.is
    (not_found c.find.result (prefixes_of c.args.self.now.mounts.items) c.in-Http.scope.path c.in-Http.scope.root_path c.as_str.result.now c.as_str-in-Http.result.now
    c.as_str.ensures c.as_str-in-Http.ensures c.find.ensures.none)

pub returns-in-Http-clause-within : goal.returns-in-Http-clause-within
returns-in-Http-clause-within g c =
    found_within c.args.self.now.mounts.items (local_path c.as_str.result.now c.as_str-in-Http.result.now) c.find.result c.find.ensures.some

pub returns-in-WebSocket-clause-none : goal.returns-in-WebSocket-clause-none
returns-in-WebSocket-clause-none g c =
    rw c.in-WebSocket.is
    (not_found c.find-in-WebSocket.result (prefixes_of c.args.self.now.mounts.items) c.in-WebSocket.scope.path c.in-WebSocket.scope.root_path c.as_str-in-WebSocket.result.now
    c.as_str-in-WebSocket-2.result.now c.as_str-in-WebSocket.ensures c.as_str-in-WebSocket-2.ensures c.find-in-WebSocket.ensures.none)

pub returns-in-WebSocket-clause-within : goal.returns-in-WebSocket-clause-within
returns-in-WebSocket-clause-within g c =
    found_within c.args.self.now.mounts.items (local_path c.as_str-in-WebSocket.result.now c.as_str-in-WebSocket-2.result.now) c.find-in-WebSocket.result
    c.find-in-WebSocket.ensures.some
