-- A connection that the system gives: which answers of accept are passed over (accept(2)), and what a scope is told of the addresses of
-- the one that is served (ASGI HTTP and WebSocket connection scope, `client` and `server`).
use Rattle.std.specs.Prelude.{◌≡◌, ◌≤◌, ◌⊎◌, ◌++◌, ◌∷◌, [], ℕ, List, length, All, Bool, true, false, Option, None, Result, Ok, Err, IfSome, IfErr}
use Rattle.std.specs.IoError.{raw_os_error, error_kind}
use Rattle.std.specs.declared.io.Error.{Error}
use Rattle.std.specs.Net.Addr.{IsV4And, ipv4_octets}
use Rattle.std.specs.Net.Socket.{socket_ip, socket_port}
use Rattle.std.specs.Net.Text.{ip_text}
use Rattle.std.specs.declared.net.socket_addr.SocketAddr.{SocketAddr}
use Rattle.asgi_types.specs.declared.scope.Peer.{Peer}
use Rattle.asgi_server.specs.declared.accepting.Fault.{Fault}
use Rattle.asgi_server.specs.declared.accepting.Fault.TheVariants.{Lasting}
use Rattle.asgi_server.specs.Accepting.{fault_of}
use Rattle.asgi_server.specs.Connections.{Given}

-- ---- what a scope is told of an address

-- the side of a connection at this address: its host as a text, which is four decimal numbers with dots between them or as RFC 5952 has it,
-- and its port
abbrev pub peer_at : SocketAddr → Peer
peer_at address = record { host = ip_text (socket_ip address); port = socket_port address }

-- a scope is told of this address, or of none, if memory for its text is refused
abbrev pub TellsAddress : SocketAddr → Option Peer → Type 0
TellsAddress address told = IfSome told (λ peer. peer ≡ peer_at address)

-- the same of what the system answers for an address; if that is an error, of none
abbrev pub TellsAnswer : Result SocketAddr Error → Option Peer → Type 0
TellsAnswer (Ok address) told = TellsAddress address told
TellsAnswer (Err e) told = told ≡ None

-- the address of a port of this machine's own loopback address, 127.0.0.1 (RFC 1122, section 3.2.1.3)
abbrev pub IsLoopbackAt : ℕ → SocketAddr → Type 0
IsLoopbackAt port address = IsV4And (socket_ip address) (λ ip. ipv4_octets ip ≡ 127 ∷ 0 ∷ 0 ∷ 1 ∷ []) × (socket_port address ≡ port)

-- ---- which answers are passed over

abbrev pub fault_in : Error → Fault
fault_in e = fault_of (raw_os_error e) (error_kind e)

-- a connection that was lost before it was accepted, or a want that may pass; none that was accepted
abbrev pub IsPassedOver : {A : Type 0} → Result A Error → Type 0
IsPassedOver (Ok accepted) = ⊥
IsPassedOver (Err e) = ¬ (fault_in e ≡ Lasting)

-- Accept was called until its answer counted, which is the result: a connection, or an error of this kind, or any after a thousand answers
-- that were passed over.
pub record AcceptsUntil {A : Type 0} (counts : Error → Type 0) (old new : List (Result A Error)) (result : Result A Error) : Type 0 where
  pub before : List (Result A Error)
  pub answered : new ≡ old ++ (before ++ result ∷ [])
  pub passed_over : All IsPassedOver before
  pub counted : IfErr result (λ e. counts e ⊎ (1000 ≤ length before))

-- the same, where an error counts if no connection can be accepted any more
abbrev pub Accepts : {A : Type 0} → List (Result A Error) → List (Result A Error) → Result A Error → Type 0
Accepts old new result = AcceptsUntil (λ e. fault_in e ≡ Lasting) old new result

-- ---- one connection

-- the port's own address is bound where no socket is open yet, and none is where one is
abbrev pub Binds : (is_open : Bool) → ℕ → List SocketAddr → List SocketAddr → Type 0
Binds true port old new = new ≡ old
Binds false port old new = (address : SocketAddr) × (new ≡ old ++ address ∷ []) × IsLoopbackAt port address

-- A connection was accepted, and the stream was asked for its own name: the client is told the address that accept answered, and the server
-- that name.
pub record HasArrived {S : Type 0} (accepted_old accepted_new : List (Result (S × SocketAddr) Error)) (named_old named_new : List (Result SocketAddr Error))
    (client server : Option Peer) : Type 0 where
  pub stream : S
  pub from : SocketAddr
  pub own : Result SocketAddr Error
  pub accepted : Accepts accepted_old accepted_new (Ok (stream, from))
  pub named : named_new ≡ named_old ++ own ∷ []
  pub client_is : TellsAddress from client
  pub server_is : TellsAnswer own server

-- the same of a connection as a listener gives it
abbrev pub Arrives : {L S : Type 0} → (accepted_old accepted_new : List (Result (S × SocketAddr) Error)) (named_old named_new : List (Result SocketAddr Error)) → Given L → Type 0
Arrives accepted_old accepted_new named_old named_new (line, client, server) = HasArrived accepted_old accepted_new named_old named_new client server
