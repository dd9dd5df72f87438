-- Messages by stamps, with an index of their methods.
use Rattle.std.specs.Prelude.{◌≡◌, ◌<◌, ◌≤◌, ◌==◌, ℕ, Option, Some, None, Bool, true, false}
use Rattle.std.specs.Ordering.{nat_cmp}
use Rattle.std.specs.BTreeMap.{BTreeMap, IsOrdered, get}
use Rattle.std.specs.BTreeSet.{BTreeSet, contains}
use Rattle.run_types.specs.Tables.{Pair, pair_cmp, Each}
use Rattle.message_queue.specs.declared.Mail.{Mail}

-- whether there is a message, for the method m
abbrev pub is_for : ℕ → Option Mail → Bool
is_for m None = false
is_for m (Some x) = x.method.0 == m

-- the index has the method and the stamp of each message, and nothing else; stamps are below the next one
pub record IsKept (mails : BTreeMap ℕ Mail) (index : BTreeSet Pair) (next : ℕ) : Type 0 where
  pub indexed : (m k : ℕ) → contains pair_cmp index (m, k) ≡ is_for m (get nat_cmp mails k)
  pub below : Each (λ e. e.0 < next) mails.entries
  pub ordered : IsOrdered nat_cmp mails

-- k is the least stamp of the methods that pass the test
pub record IsLeast (test : ℕ → Bool) (index : BTreeSet Pair) (k : ℕ) : Type 0 where
  pub method : ℕ
  pub passes : test method ≡ true
  pub has : contains pair_cmp index (method, k) ≡ true
  pub least : (m j : ℕ) → test m ≡ true → contains pair_cmp index (m, j) ≡ true → k ≤ j

-- the least stamp of the methods that pass the test; None if they have none
abbrev pub IsLeastFor : (ℕ → Bool) → BTreeSet Pair → Option ℕ → Type 0
IsLeastFor test index (Some k) = IsLeast test index k
IsLeastFor test index None = (m j : ℕ) → test m ≡ true → contains pair_cmp index (m, j) ≡ false
