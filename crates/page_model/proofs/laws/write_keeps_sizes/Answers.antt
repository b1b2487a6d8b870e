use Rattle.page_model.proofs.FrameLemmas.{whole_kept, all_outside}
use Rattle.std.proofs.Common.{map}
use Rattle.page_model.specs.Pages.{all_written}
use Rattle.page_model.specs.Spans.{span_of}
use Rattle.page_model.proofs.laws.write_keeps_sizes.Goals as goal

pub returns : goal.returns
returns c = λ writes pages count fit whole. whole_kept (map span_of writes) pages (all_written writes pages) count (all_outside writes pages fit) whole
