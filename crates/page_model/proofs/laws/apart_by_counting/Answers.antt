use Rattle.page_model.proofs.CoverLemmas.{covers_once, pairwise_by, across_by}
use Rattle.page_model.proofs.laws.apart_by_counting.Goals as goal

pub returns : goal.returns
returns c = record { once = covers_once; apart = pairwise_by; across = across_by }
