use Rattle.std.proofs.Common.{◌≡◌, ◌≤◌, replicate, vec_capacity}
use Rattle.page_model.specs.Pages.{page_bytes}
use Rattle.mini_trx.proofs.resident.blank_pages.Given as goal

abbrev pub invariant-loop-n : goal.invariant-loop-n
invariant-loop-n l = record {
  items : l.pages.items ≡ replicate l._n (replicate page_bytes 0);
  room : l.count ≤ vec_capacity l.pages;
}
