-- Contracts of the code, not definitions to be believed. Buckets and chains over the rows of one table, whatever an entry is. Row i, from 0, has the number i + 1; 0 is no row.
use Rattle.std.specs.Prelude.{ℕ, zero, suc, ◌+◌, ◌-◌, ◌*◌, ◌/◌, ◌<◌, ◌≡◌, Bool, true, ◌&&◌, get_or, set, eqb}
use Rattle.format.specs.Octets.{Octets}
use Rattle.format.specs.Numbers.{pick}
use Rattle.tables.specs.Rows.{entries}
use Rattle.tables.specs.Search.{lowest}

-- What an entry is to the index: which are the same, its bucket, and whether it is indexed at all.
pub record Kind (A : Type 0) : Type 0 where
  pub alike : A → A → Bool
  pub bucket_of : A → ℕ
  pub indexed : A → Bool

-- The lowest number of an entry among n rows; 0 if there is none.
unfoldable pub numbered : {A : Type 0} → Kind A → (g : ℕ → A) (at n : ℕ) → A → ℕ
numbered k g at n x = lowest (λ (y : _). k.alike y x) 1 (entries g at n)

-- How many of n rows can be in chains: the number 256 does not fit an octet, so row 255 is in none.
abbrev pub reached : ℕ → ℕ
reached n = n - n / 256

-- What row 255 says where the others do not have x: 256 or 0.
unfoldable pub last_row : {A : Type 0} → Kind A → (g : ℕ → A) (at n : ℕ) → A → ℕ
last_row k g at n x = pick (eqb n 256) (pick (k.alike (g (at + 765)) x) 256 0) 0

-- Row i is in the chain of bucket h: its entry is indexed, has this bucket, and is in no row before it.
unfoldable pub chained : {A : Type 0} → Kind A → (g : ℕ → A) (at h i : ℕ) → Bool
chained k g at h i = k.indexed (g (at + 3 * i)) && (eqb (k.bucket_of (g (at + 3 * i))) h && eqb (numbered k g at i (g (at + 3 * i))) 0)

-- The highest number of a row below n that passes the test; 0 if none does.
unfoldable pub latest : (ℕ → Bool) → ℕ → ℕ
latest q zero = 0
latest q (suc n) = pick (q n) (suc n) (latest q n)

-- 128 heads from a place of the index on, one for each bucket, and 256 links behind them, one for each row: a head is the last row of its chain, and a
-- link the row before it in its chain.
pub record Chains {A : Type 0} (k : Kind A) (g : ℕ → A) (at n : ℕ) (index : Octets) (base : ℕ) : Type 0 where
  pub heads : (h : ℕ) → h < 128 → get_or index (base + h) 0 ≡ latest (chained k g at h) n
  pub links : (h i : ℕ) → i < n → chained k g at h i ≡ true → get_or index (base + 128 + i) 0 ≡ latest (chained k g at h) i

-- The index with row n put in front of the chain of bucket h.
unfoldable pub pushed : Octets → (base h n : ℕ) → Octets
pushed index base h n = set (set index (base + 128 + n) (get_or index (base + h) 0)) (base + h) (n + 1)
