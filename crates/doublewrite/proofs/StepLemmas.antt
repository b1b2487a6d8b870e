-- The steps of a batch on files, and what a crash may leave in each.
use Rattle.std.proofs.Common.{◌≡◌, inl, inr, ⊎_elim, ℕ, ◌-◌, ◌<◌, ◌≤◌, List, [], ◌∷◌, length, sym, ap, ap₂, ◌∙◌, arith}
use Rattle.engine_base.specs.Disk.{Holds, Torn, Written}
use Rattle.file_model.specs.declared.layout.Layout.{Layout}
use Rattle.file_model.specs.Sections.{armed_place, count_place, logs_place, wanted}
use Rattle.file_model.specs.Changes.{SameElsewhere, Range}
use Rattle.file_model.specs.Doublewrite.{Batch, numbers, copied, is_odd, header_batch, armed, homes, InPages}
use Rattle.file_model.proofs.PartLemmas.{torn_elsewhere, held_each, wider_elsewhere, then_elsewhere}
use Rattle.file_model.proofs.BatchLemmas.{copied_again}
use Rattle.file_model.proofs.BatchImages.{armed_odd, filling_even, byte_torn, byte_header, pages_odd, homing, area_homes}
use Rattle.doublewrite.specs.Steps.{IsAtRest, IsArmed, IsHome, InArea, Arms, MayArm, Homes, MayHome, Rests, MayRest, Arming, WhileArming, Resting, WhileResting}
use Rattle.doublewrite.specs.Batches.{KeepsBatch, batch_of}
use Rattle.doublewrite.proofs.AreaLemmas.{header_read}

-- header and images
abbrev pub Filled : ℕ → Type 0
Filled = Range count_place (logs_place - count_place)

filled_area : (i : ℕ) → Filled i → InArea i
filled_area i (from, to) = (omega arith, omega arith)

byte_area : (i : ℕ) → Range armed_place 1 i → InArea i
byte_area i (from, to) = (omega arith, omega arith)

area_low : (i : ℕ) → InArea i → i < logs_place
area_low i (from, to) = omega arith

module _ (l : Layout) (batch : Batch) where
  -- ---- arming

  -- header and images are being written
  pub arm_first : (old c : List ℕ) → SameElsewhere Filled old c → IsAtRest l old → MayArm l batch old c
  arm_first old c same rest =
      let others = wider_elsewhere Filled InArea old c filled_area same in
      record {
        repairs = inl (ap (λ (b : Batch). copied b (homes l c)) (filling_even l old c rest.whole rest.even same) ∙ area_homes l old c rest.whole InArea others area_low);
        others = others;
      }

  -- they stand there, and the byte is being written
  pub arm_second : (old mid c : List ℕ) → SameElsewhere Filled old mid → header_batch l mid ≡ batch → SameElsewhere (Range armed_place 1) mid c → IsAtRest l old → MayArm l batch old c
  arm_second old mid c one header two rest =
      let whole : wanted l ≤ length mid = omega (arith, rest.whole, one.no_shorter) in
      let others = then_elsewhere InArea old mid c (wider_elsewhere Filled InArea old mid filled_area one) (wider_elsewhere (Range armed_place 1) InArea mid c byte_area two) in
      let pages = area_homes l old c rest.whole InArea others area_low in
      record {
        repairs = ⊎_elim (λ none. inl (ap (λ (b : Batch). copied b (homes l c)) none ∙ pages)) (λ all. inr (ap₂ copied (all ∙ header) pages)) (byte_torn l mid c whole two);
        others = others;
      }

  pub arm_done : (old mid new : List ℕ) → SameElsewhere Filled old mid → header_batch l mid ≡ batch → SameElsewhere (Range armed_place 1) mid new → Holds new armed_place (1 ∷ []) → IsAtRest l old → Arms l batch old new
  arm_done old mid new one header two holds rest =
      let whole : wanted l ≤ length mid = omega (arith, rest.whole, one.no_shorter) in
      record {
        armed = record {
          whole = omega (arith, whole, two.no_shorter);
          odd = ap is_odd (held_each new (1 ∷ []) armed_place 0 holds (omega arith));
          header = byte_header l mid new whole two ∙ header;
        };
        others = then_elsewhere InArea old mid new (wider_elsewhere Filled InArea old mid filled_area one) (wider_elsewhere (Range armed_place 1) InArea mid new byte_area two);
      }

  -- ---- home

  pub is_armed : (file : List ℕ) → IsArmed l batch file → armed l file ≡ batch
  is_armed file is = armed_odd l file is.odd ∙ is.header

  pub home_torn : (old c : List ℕ) → SameElsewhere (InPages l (numbers batch)) old c → IsArmed l batch old → MayHome l batch old c
  home_torn old c same is = record { repairs = homing l old c is.whole batch (is_armed old is) same; others = same }

  pub home_done : (old new : List ℕ) → SameElsewhere (InPages l (numbers batch)) old new → homes l new ≡ copied batch (homes l old) → IsArmed l batch old → Homes l batch old new
  home_done old new same home is =
      let kept = pages_odd l old new is.whole (numbers batch) same in
      record {
        is = record {
          armed = record { whole = omega (arith, is.whole, same.no_shorter); odd = ap is_odd kept.0 ∙ is.odd; header = kept.1 ∙ is.header };
          home = ap (copied batch) home ∙ copied_again batch (homes l old) ∙ sym home;
        };
        home = home;
        others = same;
      }

  -- ---- disarming

  byte_homes : (old c : List ℕ) → wanted l ≤ length old → SameElsewhere (Range armed_place 1) old c → homes l c ≡ homes l old
  byte_homes old c whole same = area_homes l old c whole (Range armed_place 1) same (λ i (from, to). omega arith)

  pub rest_torn : (old c : List ℕ) → SameElsewhere (Range armed_place 1) old c → IsHome l batch old → MayRest l old c
  rest_torn old c same is =
      let whole = is.armed.whole in
      let pages = byte_homes old c whole same in
      record {
        repairs = ⊎_elim (λ none. ap (λ (b : Batch). copied b (homes l c)) none ∙ pages) (λ all. ap₂ copied (all ∙ is.armed.header) pages ∙ is.home) (byte_torn l old c whole same);
        others = same;
      }

  pub rest_done : (old new : List ℕ) → SameElsewhere (Range armed_place 1) old new → Holds new armed_place (0 ∷ []) → IsHome l batch old → Rests l old new
  rest_done old new same holds is = record {
    at_rest = record { whole = omega (arith, is.armed.whole, same.no_shorter); even = ap is_odd (held_each new (0 ∷ []) armed_place 0 holds (omega arith)) };
    others = same;
  }

-- ---- as the calls have it

module _ (l : Layout) (count : ℕ) (buffer : List ℕ) (keeps : KeepsBatch l count buffer) where
  fill_torn : (a b : List ℕ) → Torn count_place (length buffer) a b → SameElsewhere Filled a b
  fill_torn a b torn =
      let size = keeps.size in
      let few = keeps.few in
      wider_elsewhere (Range count_place (length buffer)) Filled a b (λ i (from, to). (from, omega (arith, size, few))) (torn_elsewhere count_place (length buffer) a b torn)

  fill_written : (a b : List ℕ) → Written count_place buffer a b → header_batch l b ≡ batch_of count buffer
  fill_written a b written = let size = keeps.size in header_read l count buffer b keeps (written.holds (omega (arith, size)))

  pub arming_first : (a c : List ℕ) → Torn count_place (length buffer) a c → WhileArming l (batch_of count buffer) a c
  arming_first a c torn rest = arm_first l (batch_of count buffer) a c (fill_torn a c torn) rest

  pub arming_second : (a b c : List ℕ) → Written count_place buffer a b → Torn armed_place 1 b c → WhileArming l (batch_of count buffer) a c
  arming_second a b c written torn rest =
      arm_second l (batch_of count buffer) a b c (fill_torn a b written.torn) (fill_written a b written) (torn_elsewhere armed_place 1 b c torn) rest

  pub arming_done : (a b c : List ℕ) → Written count_place buffer a b → Written armed_place (1 ∷ []) b c → Arming l (batch_of count buffer) a c
  arming_done a b c written one rest =
      arm_done l (batch_of count buffer) a b c (fill_torn a b written.torn) (fill_written a b written) (torn_elsewhere armed_place 1 b c one.torn) (one.holds (omega arith)) rest

-- a crash while the armed byte is written leaves what disarming a home batch may leave
pub resting_torn : (l : Layout) (batch : Batch) (a c : List ℕ) → Torn armed_place 1 a c → WhileResting l batch a c
resting_torn l batch a c torn is = rest_torn l batch a c (torn_elsewhere armed_place 1 a c torn) is

-- the armed byte written as 0 disarms a batch that is home
pub resting_done : (l : Layout) (batch : Batch) (a b : List ℕ) → Written armed_place (0 ∷ []) a b → Resting l batch a b
resting_done l batch a b written is = rest_done l batch a b (torn_elsewhere armed_place 1 a b written.torn) (written.holds (omega arith)) is
