use Rattle.std.proofs.Common.{◌≡◌, ℕ, ◌+◌, ◌-◌, ◌≤◌, List, take, drop, ap, ◌∙◌, lit≤, arith}
use Rattle.byteorder.specs.Endian.{big_number}
use Rattle.byteorder.specs.Numbers.{big_from-take}
use Rattle.page_model.proofs.TableLemmas.{header_read}
use Rattle.engine_base.proofs.header.read_header.Goals as goal

-- a number read from the bytes behind place k
behind : (width i k x : ℕ) (bytes : List ℕ) → k ≡ i → i + width ≤ 38 → x ≡ big_number width (take (38 - k) (drop k bytes)) → x ≡ big_number width (drop i bytes)
behind width i k x bytes is within read =
    read ∙ big_from-take 0 width (38 - k) (drop k bytes) (omega arith) ∙ ap (λ (n : ℕ). big_number width (drop n bytes)) is

pub returns-clause-value : goal.returns-clause-value
returns-clause-value g c =
    let bytes = c.read.new.into in
    header_read (g.P.Pages.state c.args.p.now).told c.args.page.0 38 c.read_u32.result c.read_u32-2.result c.read_u32-3.result c.read_u16.result bytes (lit≤ tt) c.in_ok-read.ensures.bytes
    (behind 4 4 c.from.result c.read_u32.result bytes c.from.ensures (lit≤ tt) c.read_u32.ensures)
    (behind 4 8 c.from-2.result c.read_u32-2.result bytes c.from-2.ensures (lit≤ tt) c.read_u32-2.ensures)
    (behind 4 12 c.from-3.result c.read_u32-3.result bytes c.from-3.ensures (lit≤ tt) c.read_u32-3.ensures)
    (behind 2 24 c.from-4.result c.read_u16.result bytes c.from-4.ensures (lit≤ tt) c.read_u16.ensures)
