-- Runs laid over bytes: each place either keeps every byte, or has one byte for all.
use Rattle.std.proofs.Common.{◌≡◌, ◌⊎◌, inl, inr, ℕ, zero, suc, ◌-◌, Bool, true, false, cond, List, [], ◌∷◌, length, get_or, refl, sym, ap, ap₂, subst, ◌∙◌, arith}
use Rattle.std.specs.Prelude.{nat_le, ◌==◌}
use Rattle.store_data.specs.Pieces.{Part}
use Rattle.store_data.specs.Store.{Run}
use Rattle.store_model.specs.Runs.{byte_laid, bytes_laid, laid, all_laid}
use Rattle.read_model.specs.Patches.{AreAtSamePlaces}

-- ---- what stands at a place of a page under runs, where this byte stood there

pub byte_under : List Run → ℕ → ℕ → ℕ → ℕ
byte_under [] page place x = x
byte_under (r ∷ rs) page place x = byte_under rs page place (cond (page == r.page) (byte_laid r place x) x)

-- bytes from a place of a page on, as runs laid over them leave them
pub bytes_under : List Run → ℕ → ℕ → List ℕ → List ℕ
bytes_under rs page place [] = []
bytes_under rs page place (x ∷ xs) = byte_under rs page place x ∷ bytes_under rs page (suc place) xs

one_under : (b : Bool) (r : Run) (rs : List Run) (page place : ℕ) (xs : List ℕ) → (page == r.page) ≡ b
    → bytes_under (r ∷ rs) page place xs ≡ bytes_under rs page place (cond b (bytes_laid r place xs) xs)
unfolding byte_under bytes_under
one_under true r rs page place [] is = refl
one_under false r rs page place [] is = refl
one_under true r rs page place (x ∷ xs) is = ap₂ (λ (c : ℕ) (cs : List ℕ). c ∷ cs) (rw is refl) (one_under true r rs page (suc place) xs is)
one_under false r rs page place (x ∷ xs) is = ap₂ (λ (c : ℕ) (cs : List ℕ). c ∷ cs) (rw is refl) (one_under false r rs page (suc place) xs is)

none_under : (page place : ℕ) (xs : List ℕ) → bytes_under [] page place xs ≡ xs
unfolding byte_under bytes_under
none_under page place [] = refl
none_under page place (x ∷ xs) = ap (λ (cs : List ℕ). x ∷ cs) (none_under page (suc place) xs)

-- a part under runs has its bytes as the runs leave them at its page and place
pub laid_bytes : (rs : List Run) (x : Part) → (all_laid rs x).bytes ≡ bytes_under rs x.page x.at x.bytes
laid_bytes [] x = sym (none_under x.page x.at x.bytes)
laid_bytes (r ∷ rs) x = laid_bytes rs (laid r x) ∙ sym (one_under (x.page == r.page) r rs x.page x.at x.bytes refl)

-- runs leave a part's page
pub laid_page : (rs : List Run) (x : Part) → (all_laid rs x).page ≡ x.page
laid_page [] x = refl
laid_page (r ∷ rs) x = laid_page rs (laid r x)

-- runs leave a part's place in its page
pub laid_at : (rs : List Run) (x : Part) → (all_laid rs x).at ≡ x.at
laid_at [] x = refl
laid_at (r ∷ rs) x = laid_at rs (laid r x)

-- ---- one byte

in_or_out : (bytes : List ℕ) (i x : ℕ) → (get_or bytes i x ≡ x) ⊎ ((y : ℕ) → get_or bytes i x ≡ get_or bytes i y)
in_or_out [] i x = inl refl
in_or_out (b ∷ bs) zero x = inr (λ y. refl)
in_or_out (b ∷ bs) (suc i) x = in_or_out bs i x

in_or_out_both : (os ns : List ℕ) (i x : ℕ) → length os ≡ length ns → (get_or ns i x ≡ x) ⊎ ((y z : ℕ) → get_or os i y ≡ get_or os i z)
in_or_out_both [] [] i x same = inl refl
in_or_out_both [] (n ∷ ns) i x same = let no_way : ⊥ = omega (arith, same) in absurd no_way
in_or_out_both (o ∷ os) [] i x same = let no_way : ⊥ = omega (arith, same) in absurd no_way
in_or_out_both (o ∷ os) (n ∷ ns) zero x same = inr (λ y z. refl)
in_or_out_both (o ∷ os) (n ∷ ns) (suc i) x same = in_or_out_both os ns i x (omega (arith, same))

laid_or_not : (r : Run) (place x : ℕ) → (byte_laid r place x ≡ x) ⊎ ((y : ℕ) → byte_laid r place x ≡ byte_laid r place y)
laid_or_not r place x = by_case (nat_le r.at place)
  where
    by_case : (b : Bool) → (cond b (get_or r.bytes (place - r.at) x) x ≡ x) ⊎ ((y : ℕ) → cond b (get_or r.bytes (place - r.at) x) x ≡ cond b (get_or r.bytes (place - r.at) y) y)
    by_case true = in_or_out r.bytes (place - r.at) x
    by_case false = inl refl

pub kept_or_one : (rs : List Run) (page place x : ℕ) → (byte_under rs page place x ≡ x) ⊎ ((y : ℕ) → byte_under rs page place x ≡ byte_under rs page place y)
unfolding byte_under
kept_or_one [] page place x = inl refl
kept_or_one (r ∷ rs) page place x = by_case (page == r.page) (laid_or_not r place x) (kept_or_one rs page place x)
  where
    by_case : (b : Bool) → (byte_laid r place x ≡ x) ⊎ ((y : ℕ) → byte_laid r place x ≡ byte_laid r place y)
        → (byte_under rs page place x ≡ x) ⊎ ((y : ℕ) → byte_under rs page place x ≡ byte_under rs page place y)
        → (byte_under rs page place (cond b (byte_laid r place x) x) ≡ x) ⊎ ((y : ℕ) → byte_under rs page place (cond b (byte_laid r place x) x) ≡ byte_under rs page place (cond b (byte_laid r place y) y))
    by_case false here rest = rest
    by_case true (inr one) rest = inr (λ y. ap (byte_under rs page place) (one y))
    by_case true (inl same) (inl kept) = inl (ap (byte_under rs page place) same ∙ kept)
    by_case true (inl same) (inr one) = inr (λ y. ap (byte_under rs page place) same ∙ one (byte_laid r place y))

again : (rs : List Run) (page place x : ℕ) → byte_under rs page place (byte_under rs page place x) ≡ byte_under rs page place x
again rs page place x = elim (kept_or_one rs page place x) [
  | inl same ↦ ap (byte_under rs page place) same
  | inr one ↦ sym (one (byte_under rs page place x))
]

-- where runs stand at the same places, those of one list leave a byte, or the others have one byte for all
left_or_one : (ps qs : List Run) (page place x : ℕ) → AreAtSamePlaces ps qs
    → (byte_under qs page place x ≡ x) ⊎ ((y z : ℕ) → byte_under ps page place y ≡ byte_under ps page place z)
unfolding byte_under
left_or_one [] [] page place x same = inl refl
left_or_one [] (q ∷ qs) page place x same = absurd same
left_or_one (p ∷ ps) [] page place x same = absurd same
left_or_one (p ∷ ps) (q ∷ qs) page place x same =
    by_case (page == p.page) (page == q.page) (rw same.0 refl) (by_place (nat_le p.at place) (nat_le q.at place) (rw same.1 refl)) (left_or_one ps qs page place x same.3)
  where
    by_place : (b d : Bool) → b ≡ d → (cond d (get_or q.bytes (place - q.at) x) x ≡ x) ⊎ ((y z : ℕ) → cond b (get_or p.bytes (place - p.at) y) y ≡ cond b (get_or p.bytes (place - p.at) z) z)
    by_place true d e = subst (λ (t : Bool). (cond t (get_or q.bytes (place - q.at) x) x ≡ x) ⊎ ((y z : ℕ) → get_or p.bytes (place - p.at) y ≡ get_or p.bytes (place - p.at) z)) e
        (subst (λ (n : ℕ). (get_or q.bytes (place - n) x ≡ x) ⊎ ((y z : ℕ) → get_or p.bytes (place - p.at) y ≡ get_or p.bytes (place - p.at) z)) same.1
        (in_or_out_both p.bytes q.bytes (place - p.at) x same.2))
    by_place false d e = inl (subst (λ (t : Bool). cond t (get_or q.bytes (place - q.at) x) x ≡ x) e refl)

    by_case : (b d : Bool) → b ≡ d → (byte_laid q place x ≡ x) ⊎ ((y z : ℕ) → byte_laid p place y ≡ byte_laid p place z)
        → (byte_under qs page place x ≡ x) ⊎ ((y z : ℕ) → byte_under ps page place y ≡ byte_under ps page place z)
        → (byte_under qs page place (cond d (byte_laid q place x) x) ≡ x) ⊎ ((y z : ℕ) → byte_under ps page place (cond b (byte_laid p place y) y) ≡ byte_under ps page place (cond b (byte_laid p place z) z))
    by_case true d e (inr one) rest = inr (λ y z. ap (byte_under ps page place) (one y z))
    by_case true d e (inl kept) (inl left) = inl (subst (λ (t : Bool). byte_under qs page place (cond t (byte_laid q place x) x) ≡ x) e (ap (byte_under qs page place) kept ∙ left))
    by_case true d e (inl kept) (inr one) = inr (λ y z. one (byte_laid p place y) (byte_laid p place z))
    by_case false d e here (inl left) = inl (subst (λ (t : Bool). byte_under qs page place (cond t (byte_laid q place x) x) ≡ x) e left)
    by_case false d e here (inr one) = inr one

covered : (ps qs : List Run) (page place x : ℕ) → AreAtSamePlaces ps qs → byte_under ps page place (byte_under qs page place x) ≡ byte_under ps page place x
covered ps qs page place x same = elim (left_or_one ps qs page place x same) [
  | inl left ↦ ap (byte_under ps page place) left
  | inr one ↦ one (byte_under qs page place x) x
]

-- ---- bytes

-- runs laid over bytes a second time change nothing
pub bytes_again : (rs : List Run) (page place : ℕ) (xs : List ℕ) → bytes_under rs page place (bytes_under rs page place xs) ≡ bytes_under rs page place xs
unfolding bytes_under
bytes_again rs page place [] = refl
bytes_again rs page place (x ∷ xs) = ap₂ (λ (c : ℕ) (cs : List ℕ). c ∷ cs) (again rs page place x) (bytes_again rs page (suc place) xs)

-- runs laid over others at the same places leave what they do without these
pub bytes_covered : (ps qs : List Run) (page place : ℕ) (xs : List ℕ) → AreAtSamePlaces ps qs → bytes_under ps page place (bytes_under qs page place xs) ≡ bytes_under ps page place xs
unfolding bytes_under
bytes_covered ps qs page place [] same = refl
bytes_covered ps qs page place (x ∷ xs) same = ap₂ (λ (c : ℕ) (cs : List ℕ). c ∷ cs) (covered ps qs page place x same) (bytes_covered ps qs page (suc place) xs same)

-- runs leave the number of bytes
pub bytes_length : (rs : List Run) (page place : ℕ) (xs : List ℕ) → length (bytes_under rs page place xs) ≡ length xs
unfolding bytes_under
bytes_length rs page place [] = refl
bytes_length rs page place (x ∷ xs) = ap suc (bytes_length rs page (suc place) xs)

-- each byte is that of the one list or of the other
pub IsMix : List ℕ → List ℕ → List ℕ → Type 0
IsMix [] [] [] = Unit {0}
IsMix [] [] (c ∷ cs) = ⊥
IsMix [] (b ∷ bs) cs = ⊥
IsMix (a ∷ us) [] cs = ⊥
IsMix (a ∷ us) (b ∷ bs) [] = ⊥
IsMix (a ∷ us) (b ∷ bs) (c ∷ cs) = ((c ≡ a) ⊎ (c ≡ b)) × IsMix us bs cs

-- runs laid over two lists of bytes and over a mix of them leave a mix of the two
pub mix_under : (rs : List Run) (page place : ℕ) (us bs cs : List ℕ) → IsMix us bs cs
    → IsMix (bytes_under rs page place us) (bytes_under rs page place bs) (bytes_under rs page place cs)
unfolding IsMix bytes_under
mix_under rs page place [] [] [] mix = tt
mix_under rs page place [] [] (c ∷ cs) mix = absurd mix
mix_under rs page place [] (b ∷ bs) cs mix = absurd mix
mix_under rs page place (a ∷ us) [] cs mix = absurd mix
mix_under rs page place (a ∷ us) (b ∷ bs) [] mix = absurd mix
mix_under rs page place (a ∷ us) (b ∷ bs) (c ∷ cs) mix = (
  elim mix.0 [
    | inl e ↦ inl (ap (byte_under rs page place) e)
    | inr e ↦ inr (ap (byte_under rs page place) e)
  ],
  mix_under rs page (suc place) us bs cs mix.1,
)

first : List ℕ → ℕ
first [] = 0
first (x ∷ xs) = x

rest : List ℕ → List ℕ
rest [] = []
rest (x ∷ xs) = xs

-- a mix of two equal lists of bytes is the second of them
pub mix_same : (us bs cs : List ℕ) → us ≡ bs → IsMix us bs cs → cs ≡ bs
unfolding IsMix first rest
mix_same [] [] [] e mix = refl
mix_same [] [] (c ∷ cs) e mix = absurd mix
mix_same [] (b ∷ bs) cs e mix = absurd mix
mix_same (a ∷ us) [] cs e mix = absurd mix
mix_same (a ∷ us) (b ∷ bs) [] e mix = absurd mix
mix_same (a ∷ us) (b ∷ bs) (c ∷ cs) e mix = ap₂ (λ (x : ℕ) (xs : List ℕ). x ∷ xs) (elim mix.0 [
  | inl h ↦ h ∙ ap first e
  | inr h ↦ h
]) (mix_same us bs cs (ap rest e) mix.1)

-- runs that stand in some bytes, laid over others: a mix of the two
pub mix_standing : (rs : List Run) (page place : ℕ) (cs bs : List ℕ) → length cs ≡ length bs → bytes_under rs page place bs ≡ bs → IsMix cs bs (bytes_under rs page place cs)
unfolding IsMix bytes_under first rest
mix_standing rs page place [] [] len stand = tt
mix_standing rs page place [] (b ∷ bs) len stand = let no_way : ⊥ = omega (arith, len) in absurd no_way
mix_standing rs page place (c ∷ cs) [] len stand = let no_way : ⊥ = omega (arith, len) in absurd no_way
mix_standing rs page place (c ∷ cs) (b ∷ bs) len stand = (
  elim (kept_or_one rs page place c) [
    | inl same ↦ inl same
    | inr one ↦ inr (one b ∙ ap first stand)
  ],
  mix_standing rs page (suc place) cs bs (omega (arith, len)) (ap rest stand),
)
