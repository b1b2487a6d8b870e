use Rattle.store_pages.proofs.LobMoveLemmas.{lob_grown}
use Rattle.store_pages.proofs.lobs.lob_grows.Goals as goal

pub returns : goal.returns
returns c = lob_grown
