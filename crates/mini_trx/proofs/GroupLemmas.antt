-- A buffer with the frame of some writes keeps a group.
use Rattle.std.proofs.Common.{◌≡◌, ℕ, ◌+◌, ◌^◌, ◌<◌, ◌≤◌, List, [], ◌∷◌, ◌++◌, length, drop, All, refl, sym, ap, subst, ◌∙◌, arith}
use Rattle.std.proofs.lemmas.List.Elements.{All-push, All-weaker, All-nil}
use Rattle.byteorder.specs.Endian.{big_number}
use Rattle.page_model.specs.Pages.{Write, page_bytes}
use Rattle.page_model.specs.Frames.{frame_bytes, writes_in, max_group, write, IsInside, IsFrame, HoldsFrame}
use Rattle.mini_trx.specs.Groups.{KeepsFrame}
use Rattle.page_model.proofs.GroupFrameLemmas.{all_small, frame_read, count_read}

-- the buffer's writes are those, and it keeps them
pub record Keeps (ws : List Write) (items : List ℕ) : Type 0 where
  pub group : KeepsFrame items
  pub writes : writes_in items ≡ ws

pub keeps : (ws : List Write) (items : List ℕ) → items ≡ frame_bytes ws → length items ≤ max_group → All (IsInside (2 ^ 32)) ws → Keeps ws items
keeps ws items is short inside =
    let read : writes_in items ≡ ws = ap writes_in is ∙ frame_read ws (all_small ws inside) (let l = ap length is in omega (arith, l, short)) in
    record {
      group = record {
        frame = is ∙ ap frame_bytes (sym read);
        short = short;
        inside = subst (All (IsInside (2 ^ 32))) (sym read) inside;
      };
      writes = read;
    }

-- the empty group
pub keeps_none : (items : List ℕ) → items ≡ frame_bytes [] → Keeps [] items
unfolding frame_bytes
keeps_none items is = keeps [] items is (let l = ap length is in omega (arith, l)) (All-nil (IsInside (2 ^ 32)))

-- one write more, where there is room for it
pub keeps_more : (old new : List ℕ) (ws : List Write) (old_len new_len page at : ℕ) (bytes : List ℕ) → KeepsFrame old → writes_in old ≡ ws
    → ((vs : List Write) → old ≡ frame_bytes vs → new ≡ frame_bytes (vs ++ write page at bytes ∷ []))
    → old_len ≡ length old → new_len ≡ length new → new_len ≡ old_len + (8 + length bytes) → length (frame_bytes ws) + (length bytes + 8) ≤ max_group
    → page < 2 ^ 32 → at + length bytes ≤ page_bytes → Keeps (ws ++ write page at bytes ∷ []) new
keeps_more old new ws old_len new_len page at bytes kept are appends is_old is_new grows room few within =
    let frame : old ≡ frame_bytes ws = kept.frame ∙ ap frame_bytes are in
    let l = ap length frame in
    keeps (ws ++ write page at bytes ∷ []) new (appends ws frame) (omega (arith, is_old, is_new, grows, room, l))
    (All-push (IsInside (2 ^ 32)) ws (write page at bytes) (subst (All (IsInside (2 ^ 32))) are kept.inside) (record { page = few; within = within }))

pub wider : (count : ℕ) (ws : List Write) → count < 2 ^ 32 → All (IsInside count) ws → All (IsInside (2 ^ 32)) ws
wider count ws few inside = All-weaker (IsInside count) (IsInside (2 ^ 32)) (λ w i. record { page = let h = i.page in omega arith; within = i.within }) ws inside

-- a frame that was read
pub keeps_read : (count : ℕ) (items : List ℕ) → count < 2 ^ 32 → HoldsFrame count items → Keeps (writes_in items) items × All (IsInside count) (writes_in items)
keeps_read count items few (ws, is) =
    let kept = keeps ws items is.frame is.short (wider count ws few is.inside) in (
      record { group = kept.group; writes = refl },
      subst (All (IsInside count)) (sym kept.writes) is.inside,
    )

-- a frame has these writes and no others
pub same_writes : (count : ℕ) (ws : List Write) (items : List ℕ) → count < 2 ^ 32 → IsFrame count ws items → writes_in items ≡ ws
same_writes count ws items few is = (keeps ws items is.frame is.short (wider count ws few is.inside)).writes

-- a group's count, as its frame tells it
pub count_kept : (items : List ℕ) → KeepsFrame items → big_number 2 (drop 4 items) ≡ length (writes_in items)
count_kept items kept =
    ap (λ (xs : List ℕ). big_number 2 (drop 4 xs)) kept.frame ∙ count_read (writes_in items) (let l = ap length kept.frame in omega (arith, l, kept.short))
