-- Rows computed: what logs of a few bytes hold, and a small doublewrite batch.
use Rattle.std.proofs.Common.{◌≡◌, ℕ, List, [], ◌∷◌, ◌++◌, refl, true, false}
use Rattle.page_model.specs.Frames.{write, frame_bytes}
use Rattle.file_model.specs.Sections.{part}
use Rattle.file_model.specs.Doublewrite.{copied}
use Rattle.file_model.specs.Frames.{Group, frames_of}
use Rattle.file_model.specs.Blocks.{LogRead, log_in}

abbrev one : Group
one = write 3 5 (7 ∷ []) ∷ []

-- its frame
abbrev one_bytes : List ℕ
one_bytes = 0 ∷ 0 ∷ 0 ∷ 15 ∷ 0 ∷ 1 ∷ 0 ∷ 0 ∷ 0 ∷ 3 ∷ 0 ∷ 5 ∷ 0 ∷ 1 ∷ 7 ∷ []

-- gate and length of a block of that frame, and of two
abbrev of_one : List ℕ
of_one = 1 ∷ 0 ∷ 0 ∷ 0 ∷ 15 ∷ []

abbrev of_two : List ℕ
of_two = 3 ∷ 0 ∷ 0 ∷ 0 ∷ 30 ∷ []

abbrev read : List Group → ℕ → LogRead
read groups used = record { groups = groups; used = used; early = false }

abbrev early : List Group → ℕ → LogRead
early groups used = record { groups = groups; used = used; early = true }

frame_of_one : frame_bytes one ≡ one_bytes
unfolding frame_bytes
frame_of_one = refl

-- an open block; a closed gate, whose byte is any even one; and what stands behind it
one_block : log_in 16 (of_one ++ one_bytes ++ 254 ∷ 9 ∷ 9 ∷ []) ≡ read (one ∷ []) 20
unfolding frame_bytes log_in frames_of part
one_block = refl

closed : log_in 16 (0 ∷ of_one ++ one_bytes) ≡ read [] 0
unfolding log_in
closed = refl

two_blocks : log_in 16 (of_one ++ (one_bytes ++ (of_two ++ (one_bytes ++ (one_bytes ++ 0 ∷ []))))) ≡ read (one ∷ one ∷ one ∷ []) 55
unfolding frame_bytes log_in frames_of part
two_blocks = refl

-- a block without frames
empty_block : log_in 16 (1 ∷ 0 ∷ 0 ∷ 0 ∷ 0 ∷ 0 ∷ []) ≡ read [] 5
unfolding frame_bytes log_in frames_of part
empty_block = refl

-- no room for the next gate: nothing of the block counts
past_the_region : log_in 16 (of_one ++ (one_bytes ++ (of_one ++ one_bytes))) ≡ early (one ∷ []) 20
unfolding frame_bytes log_in frames_of part
past_the_region = refl

-- a write outside the pages, in the second frame of a block
outside : log_in 3 (of_one ++ (one_bytes ++ 0 ∷ [])) ≡ early [] 0
unfolding frame_bytes log_in frames_of part
outside = refl

-- a frame whose length is past its block: the one before it counts
not_whole : log_in 16 (1 ∷ 0 ∷ 0 ∷ 0 ∷ 21 ∷ (one_bytes ++ 0 ∷ 0 ∷ 0 ∷ 15 ∷ 0 ∷ 0 ∷ 0 ∷ [])) ≡ early (one ∷ []) 0
unfolding frame_bytes log_in frames_of part
not_whole = refl

-- a frame whose writes don't fill it
not_filled : log_in 16 (1 ∷ 0 ∷ 0 ∷ 0 ∷ 7 ∷ 0 ∷ 0 ∷ 0 ∷ 7 ∷ 0 ∷ 0 ∷ 9 ∷ 0 ∷ []) ≡ early [] 0
unfolding frame_bytes log_in frames_of part
not_filled = refl

-- a page that a batch names twice gets the later image
copied_twice : copied ((1, 5 ∷ []) ∷ (0, 6 ∷ []) ∷ (1, 7 ∷ []) ∷ []) ((1 ∷ []) ∷ (2 ∷ []) ∷ (3 ∷ []) ∷ []) ≡ (6 ∷ []) ∷ (7 ∷ []) ∷ (3 ∷ []) ∷ []
copied_twice = refl
