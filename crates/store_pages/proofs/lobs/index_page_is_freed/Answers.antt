use Rattle.store_pages.proofs.LobMoveLemmas.{index_freed_in}
use Rattle.store_pages.proofs.lobs.index_page_is_freed.Goals as goal

pub returns : goal.returns
returns c = index_freed_in
