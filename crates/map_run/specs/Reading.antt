-- What is known of the program's reads. What they read is up to the operating system: no contract says it. Assumes nothing.
use Rattle.std.specs.Prelude.{◌≡◌, List, ℕ, ◌≤◌, ◌<◌, length}

-- `kept` bytes stand at the front of `input`, which has room for n, and `more` bytes of a further read at the front of `spare`;
-- that read is made once `input` is full
pub record Got (n : ℕ) (input spare : List ℕ) (kept more : ℕ) : Type 0 where
  pub room : length input ≡ n
  pub kept_in : kept ≤ length input
  pub more-in : more ≤ length spare
  pub full : 0 < more → kept ≡ n
