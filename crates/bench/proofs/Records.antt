-- Each machine of the reference model is what the counted records make of an empty one.
-- Assumes nothing.
use mathlib.Core.Path.{◌≡◌, refl, sym, ap, ◌∙◌}
use mathlib.Core.Logic.{inl, inr}
use mathlib.Core.List.{List, [], ◌∷◌}
use Prim.Native.Nat.{ℕ, zero, suc, ◌+◌, ◌<◌}
use native.Mathlib.Nat.{zero-add, add-zero, add-suc, suc-add, le_of_suc-le-suc, not-suc-le-zero}
use lib.ListN.{length, get_or, get_or-replicate, length-replicate}
use Rattle.katan.specs.Sizes.{lane_count}
use Rattle.bench_record.specs.declared.Record.{Record}
use Rattle.bench_record.specs.Fields.{Kind, load, forward, back, clear, other, decode, kind, SaySame, AllSaySame}
use Rattle.bench.specs.Machine.{Machine, empty, loaded, step_as, machine_step, step_all}
use Rattle.bench.specs.Model.{Model, fresh_model, after_counted, made_by}

stepped_length : (r : Record) (ms : List Machine) (i : ℕ) → length (step_all r i ms) ≡ length ms
unfolding step_all
stepped_length r [] i = refl
stepped_length r (m ∷ ms) i = ap suc (stepped_length r ms (suc i))

stepped_at : (r : Record) (ms : List Machine) (i k : ℕ) → k < length ms → get_or (step_all r i ms) k empty ≡ machine_step r (i + k) (get_or ms k empty)
unfolding step_all
stepped_at r [] i k h = absurd (not-suc-le-zero h)
stepped_at r (m ∷ ms) i zero h = ap (λ (x : ℕ). machine_step r x m) (sym (add-zero i))
stepped_at r (m ∷ ms) i (suc k) h =
    stepped_at r ms (suc i) k (le_of_suc-le-suc h) ∙ ap (λ (x : ℕ). machine_step r x (get_or ms k empty)) (suc-add i k ∙ sym (add-suc i k))

-- ---- a fresh model, and a counted record

pub record Made (m : Model) : Type 0 where
  pub size : length m.machines ≡ lane_count
  pub made : (i : ℕ) → i < lane_count → get_or m.machines i empty ≡ made_by i m.counted

pub fresh_made : Made fresh_model
unfolding fresh_model made_by
fresh_made = record { size = length-replicate lane_count empty; made = λ i h. get_or-replicate lane_count i empty empty h }

pub counted_made : (m : Model) (s : List ℕ) → Made m → Made (after_counted m s)
unfolding after_counted made_by
counted_made m s k =
    record {
      size = stepped_length (decode s) m.machines 0 ∙ k.size;
      made = λ i h.
          stepped_at (decode s) m.machines 0 i (rw k.size h)
          ∙ ap (λ (x : ℕ). machine_step (decode s) x (get_or m.machines i empty)) (zero-add i)
          ∙ ap (machine_step (decode s) i) (k.made i h);
    }

-- ---- records that say the same of a lane make the same of its machine

pub same_as : (k : Kind) (r q : Record) (m : Machine) → r.count ≡ q.count → r.key ≡ q.key → r.block ≡ q.block → step_as k r m ≡ step_as k q m
unfolding step_as
same_as load r q m c k b = rw (c, k, b)
same_as forward r q empty c k b = refl
same_as forward r q (loaded key block load_at p) c k b = rw c
same_as back r q empty c k b = refl
same_as back r q (loaded key block load_at p) c k b = rw c
same_as clear r q m c k b = refl
same_as other r q m c k b = refl

same_step : (i : ℕ) (r q : Record) (m : Machine) → SaySame i r q → machine_step r i m ≡ machine_step q i m
same_step i r q m (inl a) = rw (a.0, a.1)
same_step i r q m (inr a) = rw (a.0, a.1) (ap (λ (k : Kind). step_as k r m) a.2 ∙ same_as (kind q) r q m a.3 a.4 a.5)

pub same_made : (i : ℕ) (ss ts : List (List ℕ)) → AllSaySame i ss ts → made_by i ss ≡ made_by i ts
unfolding made_by
same_made i [] [] a = refl
same_made i [] (t ∷ ts) a = absurd a
same_made i (s ∷ ss) [] a = absurd a
same_made i (s ∷ ss) (t ∷ ts) a = ap (machine_step (decode s) i) (same_made i ss ts a.1) ∙ same_step i (decode s) (decode t) (made_by i ts) a.0
