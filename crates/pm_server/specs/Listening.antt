-- Where a server listens.
use Rattle.std.specs.Prelude.{ℕ, ◌≡◌, [], ◌∷◌}
use Rattle.std.specs.Net.Addr.{ipv4_octets, IsV4And}
use Rattle.std.specs.Net.Socket.{socket_ip, socket_port}
use Rattle.std.specs.declared.net.socket_addr.SocketAddr.{SocketAddr}

-- this port of 127.0.0.1
abbrev pub IsLocal : SocketAddr → ℕ → Type 0
IsLocal address port = IsV4And (socket_ip address) (λ host. ipv4_octets host ≡ 127 ∷ 0 ∷ 0 ∷ 1 ∷ []) × (socket_port address ≡ port)
