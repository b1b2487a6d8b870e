use Rattle.store_pages.proofs.LobMoveLemmas.{piece_freed_in}
use Rattle.store_pages.proofs.lobs.piece_is_freed.Goals as goal

pub returns : goal.returns
returns c = piece_freed_in
