-- A moment as a day and the milliseconds of that day.
use Rattle.std.specs.Prelude.{◌≡◌, ℕ, ◌+◌, ◌*◌, ◌/◌, ◌%◌, ◌^◌, ◌<◌, Some, None, Option, ◌≢◌}

-- milliseconds from the first midnight of all to that of the day, and those of the day
abbrev pub join_of : ℕ → ℕ → ℕ
join_of day ms = day * 86400000 + ms

-- the day, then the milliseconds of that day
abbrev pub split_of : ℕ → ℕ × ℕ
split_of m = (m / 86400000, m % 86400000)

-- a day and its milliseconds put together: the moment that splits into them, or none where there is no such moment of 64 bits
abbrev pub Joined : ℕ → ℕ → Option ℕ → Type 0
Joined day ms (Some m) = (m ≡ join_of day ms) × (split_of m ≡ (day, ms))
Joined day ms None = (m : ℕ) → m < 2 ^ 64 → split_of m ≢ (day, ms)
