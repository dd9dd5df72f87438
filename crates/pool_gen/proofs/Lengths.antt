-- The texts of a ring have far fewer bytes than an input may have.
use Rattle.std.proofs.Common.{◌≡◌, ℕ, ◌+◌, ◌*◌, ◌≤◌, zero, suc, [], ◌∷◌, ◌++◌, length, decimal, arith}
use Rattle.std.specs.Prelude.{◌%◌, codes}
use Rattle.std.specs.List.{slice_index_or}
use Rattle.std.proofs.lemmas.List.{length-append}
use Rattle.std.proofs.lemmas.Fmt.{length-decimal-le}
use Rattle.rand_core.specs.Steps.{first_words}
use Rattle.rand_pcg.specs.Lcg.{Lcg}
use Rattle.rand_pcg.specs.Pcg.{pcg32}
use Rattle.pool_gen.specs.Ring.{before_count, between_counts, choices, drawn_line, drawn_lines, generator_of, ring_program, ring_schedule}

choice_short : (i : ℕ) → length (slice_index_or choices i []) ≤ 8
choice_short zero = omega arith
choice_short (suc zero) = omega arith
choice_short (suc (suc zero)) = omega arith
choice_short (suc (suc (suc zero))) = omega arith
choice_short (suc (suc (suc (suc zero)))) = omega arith
choice_short (suc (suc (suc (suc (suc zero))))) = omega arith
choice_short (suc (suc (suc (suc (suc (suc zero)))))) = omega arith
choice_short (suc (suc (suc (suc (suc (suc (suc zero))))))) = omega arith
choice_short (suc (suc (suc (suc (suc (suc (suc (suc zero)))))))) = omega arith
choice_short (suc (suc (suc (suc (suc (suc (suc (suc (suc zero))))))))) = omega arith
choice_short (suc (suc (suc (suc (suc (suc (suc (suc (suc (suc zero)))))))))) = omega arith
choice_short (suc (suc (suc (suc (suc (suc (suc (suc (suc (suc (suc zero))))))))))) = omega arith
choice_short (suc (suc (suc (suc (suc (suc (suc (suc (suc (suc (suc (suc i)))))))))))) = omega arith

line_short : (word : ℕ) → length (drawn_line word) ≤ 9
line_short word =
    let line = slice_index_or choices (word % 12) [] in
    let short = choice_short (word % 12) in
    let whole : length (drawn_line word) ≡ length line + 1 = length-append line (10 ∷ []) in
    omega (arith, short, whole)

lines_short : (n : ℕ) (g : Lcg) → length (drawn_lines (first_words pcg32 n g)) ≤ n * 9
unfolding first_words
lines_short zero g = omega arith
lines_short (suc n) g =
    let line = drawn_line (pcg32 g).0 in
    let rest = drawn_lines (first_words pcg32 n (pcg32 g).1) in
    let one = line_short (pcg32 g).0 in
    let more = lines_short n (pcg32 g).1 in
    let whole : length (line ++ rest) ≡ length line + length rest = length-append line rest in
    omega (arith, one, more, whole)

pub program_short : (k : ℕ) → k ≤ 1000 → length (ring_program k) ≤ 1048576
program_short k h =
    let digits : length (decimal k) ≤ 4 = length-decimal-le 4 k (omega arith) (omega (arith, h)) (omega (arith, h)) in
    let last = codes ") end\n" in
    let a : length (decimal k ++ last) ≡ length (decimal k) + length last = length-append (decimal k) last in
    let b : length (between_counts ++ (decimal k ++ last)) ≡ length between_counts + length (decimal k ++ last) = length-append between_counts (decimal k ++ last) in
    let c : length (decimal k ++ (between_counts ++ (decimal k ++ last))) ≡ length (decimal k) + length (between_counts ++ (decimal k ++ last)) = length-append (decimal k) (between_counts ++ (decimal k ++ last)) in
    let d : length (ring_program k) ≡ length before_count + length (decimal k ++ (between_counts ++ (decimal k ++ last))) = length-append before_count (decimal k ++ (between_counts ++ (decimal k ++ last))) in
    let known : length before_count + length between_counts + length last ≤ 1000 = omega arith in
    omega (arith, digits, a, b, c, d, known)

pub schedule_short : (k : ℕ) → length (ring_schedule k) ≤ 1048576
schedule_short k =
    let drawn = drawn_lines (first_words pcg32 2000 (generator_of k)) in
    let last = codes "round 100000\n" in
    let many = lines_short 2000 (generator_of k) in
    let a : length (drawn ++ last) ≡ length drawn + length last = length-append drawn last in
    let b : length (ring_schedule k) ≡ length (codes "quantum 20\n") + length (drawn ++ last) = length-append (codes "quantum 20\n") (drawn ++ last) in
    let known : length last + length (codes "quantum 20\n") ≤ 100 = omega arith in
    omega (arith, many, a, b, known)
