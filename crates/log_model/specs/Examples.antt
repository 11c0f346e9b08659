-- Worked places: S = 4,096, and bodies of 3,072, 804 and 2 bytes to the topic `T`, whose records have 106 bytes and their bodies.
use Rattle.std.specs.Prelude.{◌≡◌, ℕ, ◌+◌, Some, refl}
use Rattle.log_model.specs.Log.{place_after}
use Rattle.log_model.specs.Batches.{blank_between}

abbrev pub size_with : ℕ → ℕ
size_with body = 106 + body

pub first_at : place_after 4096 0 (size_with 3072) ≡ 0
first_at = refl

-- it fits exactly, with eight bytes left
pub second_at : place_after 4096 3178 (size_with 804) ≡ 3178
second_at = refl

pub third_at : place_after 4096 4088 (size_with 2) ≡ 4096
third_at = refl

-- a byte more doesn't fit
pub longer_at : place_after 4096 3178 (size_with 805) ≡ 4096
longer_at = refl

pub blank_at : blank_between 3178 4096 ≡ Some (3178, 918)
blank_at = refl
