use Rattle.std.proofs.Common.{vec_len}
use Rattle.asgi_server.proofs.station.end_stations.Given as goal

abbrev pub decreases-loop-station : goal.decreases-loop-station
decreases-loop-station g l = vec_len l.stations
