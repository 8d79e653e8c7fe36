-- Worked examples, computed.
use Rattle.std.specs.Prelude.{◌≡◌, [], ◌∷◌, map, pos, negsuc, Some, None, refl}
use Rattle.metrics_core.specs.Numbers.{whole}
use Rattle.native_histograms.specs.Native.{NativeText, indices, index_of, buckets_of, native_of}
use Rattle.native_histograms.specs.Settings.{factor_of, depth_of}

abbrev settings : NativeText
settings = record { depth = 0; max_buckets = 2; threshold = pos 100000000 }

-- factor 2, at most 2 buckets, threshold 0.1, over 1, 2, 4, 8
pub four_values : native_of settings (map whole (1 ∷ 2 ∷ 4 ∷ 8 ∷ []))
    ≡ record { config = settings; depth = 2; positive = (pos 0, 1) ∷ (pos 1, 3) ∷ []; negative = []; zeros = 0; sum = whole 15; count = 4 }
unfolding indices index_of buckets_of
four_values = refl

-- 0.1 and -0.1 are zeros there; -1 and 1 fill the two buckets, and 0.5 in a third one halves the indices
pub both_signs : native_of settings (pos 100000000 ∷ negsuc 99999999 ∷ negsuc 999999999 ∷ whole 1 ∷ pos 500000000 ∷ [])
    ≡ record { config = settings; depth = 1; positive = (pos 0, 2) ∷ []; negative = (pos 0, 1) ∷ []; zeros = 2; sum = pos 500000000; count = 5 }
unfolding indices index_of buckets_of
both_signs = refl

-- the bounds of buckets at schema 0, and the least and the greatest index
pub indices_at_bounds : map (index_of 0) (1 ∷ 500000000 ∷ 500000001 ∷ 1000000000 ∷ 1000000001 ∷ 9223372036854775808 ∷ [])
    ≡ negsuc 28 ∷ negsuc 0 ∷ pos 0 ∷ pos 0 ∷ pos 1 ∷ pos 34 ∷ []
unfolding indices index_of
indices_at_bounds = refl

-- 16 is 2 ^ 4, so that it has index 4 at schema 0, 2 at -1, 1 at -2 and up
pub index_of_sixteen : map (λ depth. index_of depth 16000000000) (0 ∷ 1 ∷ 2 ∷ 3 ∷ 4 ∷ []) ≡ pos 4 ∷ pos 2 ∷ pos 1 ∷ pos 1 ∷ pos 1 ∷ []
unfolding indices index_of
index_of_sixteen = refl

pub factors : map factor_of (0 ∷ 1 ∷ 2 ∷ 3 ∷ 4 ∷ []) ≡ map whole (2 ∷ 4 ∷ 16 ∷ 256 ∷ 65536 ∷ [])
factors = refl

pub depths : (depth_of (whole 256) ≡ Some 3) × (depth_of (whole 3) ≡ None)
depths = (refl, refl)
