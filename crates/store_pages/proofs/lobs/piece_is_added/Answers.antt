use Rattle.store_pages.proofs.LobMoveLemmas.{piece_added_in}
use Rattle.store_pages.proofs.lobs.piece_is_added.Goals as goal

pub returns : goal.returns
returns c = piece_added_in
