-- `handshake_verdict::peer_url` reads the body of the feature that was found, which is inside.
use Rattle.handshake_verdict.proofs.FoundLaws.{found_at}
use Rattle.handshake_verdict.proofs.peer_url.Goals as goal

pub read_url-requires : goal.read_url-requires
read_url-requires c = (found_at _ 4 _ _ c.in_ok-f.ensures).inside
