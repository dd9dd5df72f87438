-- The counters of a machine, its number of nodes, and the cells of a node that are taken, stay within their types.
use Rattle.std.proofs.Common.{◌≡◌, ℕ, ◌+◌, ◌*◌, ◌<◌, ◌≤◌, Fits, w32, w64, arith}
use Rattle.std.proofs.Math.Nat.{mul-le-mul_left}

pub done_fits : (done : ℕ) → done < 4294967295 → Fits w32 (done + 1)
done_fits done few = omega arith

pub moves_fit : (moves done n : ℕ) → moves ≤ done → done < 4294967295 → n ≤ 1 → Fits w64 (moves + n)
moves_fit moves done n within few one = omega arith

pub transitions_fit : (transitions done n : ℕ) → transitions ≤ done * 4294967295 → done < 4294967295 → n < 4294967296 → Fits w64 (transitions + n)
transitions_fit transitions done n within few less = omega arith

pub moves_after : (moves done n : ℕ) → moves ≤ done → n ≤ 1 → moves + n ≤ done + 1
moves_after moves done n within one = omega arith

pub transitions_after : (transitions done n : ℕ) → transitions ≤ done * 4294967295 → n < 4294967296 → transitions + n ≤ (done + 1) * 4294967295
transitions_after transitions done n within less = omega arith

pub cells_fit : (waiting leaving taken leaves cells : ℕ) → waiting ≡ taken → leaving ≡ leaves → taken + leaves ≤ cells → cells ≤ 16384 → Fits w32 (waiting + leaving)
cells_fit waiting leaving taken leaves cells w l within few = omega arith

pub one_more_fits : (waiting leaving taken leaves cells : ℕ) → waiting ≡ taken → leaving ≡ leaves → taken + leaves ≤ cells → cells ≤ 16384 → Fits w32 (waiting + leaving + 1)
one_more_fits waiting leaving taken leaves cells w l within few = omega arith

pub nodes_fit : (width height : ℕ) → width ≤ 8 → height ≤ 8 → Fits w32 (width * height)
nodes_fit width height w h = omega (arith, mul-le-mul_left width h)
