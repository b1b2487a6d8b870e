-- The laws of a disk in memory: what it reads as is an image, and an image now is one of those
-- since each moment.
use Rattle.std.specs.Prelude.{◌≡◌, ℕ, List, length, Option, Some}
use Rattle.std.proofs.Common.{inl, inr, ap, sym}
use Rattle.std.proofs.Math.Nat.{not-le_of_lt}
use Rattle.std.specs.Option.{unwrap_or}
use Rattle.std.specs.Prelude.{[]}
use Rattle.mem_disk.specs.MemDisk.{Event, contents_of, IsImage, LeftSince}

pub reads_as_image : (base : List ℕ) (events : List Event) (file : List ℕ)
    → Some (contents_of base events) ≡ Some file → IsImage base events file
reads_as_image base events file told = inl (sym (ap (λ (o : Option (List ℕ)). unwrap_or o []) told))

pub image_now : (base : List ℕ) (events : List Event) (c : List ℕ)
    → LeftSince base events (length events) c → IsImage base events c
image_now base events c (inl now) = now
image_now base events c (inr (k, from, below, image)) = absurd (not-le_of_lt below from)
