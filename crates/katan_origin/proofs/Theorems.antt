-- THEOREM: the claim holds.
-- Assumes nothing.
use mathlib.Core.Path.{◌≡◌}
use mathlib.Core.List.{List}
use Prim.Native.Nat.{ℕ, ◌^◌, ◌<◌, ◌≤◌}
use borrow.Author.Tests.{eq-eqb, lt-ltb, le-ltb, lt-leb}
use lib.ListN.{length}
use Rattle.katan.specs.Bit.{number_in}
use Rattle.katan.specs.Checks.{value, refused}
use Rattle.katan.specs.Sizes.{key_bytes}
use Rattle.katan.specs.Variant.{width_of}
use Rattle.katan.proofs.Variants.{variant_sound}
use Rattle.katan_origin.specs.Origin.{last_clock, origin_of, origin_answer}
use Rattle.katan_origin.specs.Claim.{FollowedBack}
use Rattle.katan_origin.proofs.Followed.{fa_followed, fb_followed}
use Rattle.katan_origin.proofs.Plain.{positions, shows, fa_enters, fb_enters}
use Rattle.katan_origin.proofs.Counts.{same_count, counts}

answered : (v : ℕ) (key : List ℕ) (x t : ℕ) → 1 ≤ v → v ≤ 6 → length key ≡ key_bytes → t ≤ last_clock → x < 2 ^ width_of v → origin_answer v key x t ≡ value (origin_of v (number_in key) x t)
answered v key x t p q ten early fits =
    rw (variant_sound v p q, eq-eqb (length key) key_bytes ten, le-ltb last_clock t early, lt-leb (2 ^ width_of v) x fits)

late : (v : ℕ) (key : List ℕ) (x t : ℕ) → 1 ≤ v → v ≤ 6 → length key ≡ key_bytes → last_clock < t → origin_answer v key x t ≡ refused 15
late v key x t p q ten h = rw (variant_sound v p q, eq-eqb (length key) key_bytes ten, lt-ltb last_clock t h)

pub followed_back : FollowedBack
followed_back =
    record {
      fa_followed = fa_followed;
      fb_followed = fb_followed;
      positions = positions;
      in_l1 = λ v key x t i q. (shows v key x t).shows1 i q;
      in_l2 = λ v key x t i q. (shows v key x t).shows2 i q;
      into_l2 = fa_enters;
      into_l1 = fb_enters;
      same_count = same_count;
      counts = counts;
      late = late;
      answered = answered;
    }
