-- Every starred case of document 01 holds of the definitions, and so do the refined weights of the table.
use mathlib.Core.Path.{◌≡◌, refl}
use mathlib.Core.Bool.{xor}
use mathlib.Core.List.{map}
use Rattle.lists.specs.Lists.{◌∈◌, below, each, keep}
use Rattle.lists.proofs.Lists.{of_map_cong}
use Rattle.integers.specs.Integers.{min_z, max_z, eq_z, least, sum_of, sum, insert, sort, sum_of_smallest}
use Rattle.sets.specs.Sets.{has, members, others, size, mask, complement}
use Rattle.pairs.specs.Pairs.{mark, carried}
use Rattle.clusters.specs.PairList.{row_start, place, score}
use Rattle.clusters.specs.Indices.{strong_values, strong_index, weight, pairs_of, weights, clean_index, separation_values, separation_index}
use Rattle.clusters.specs.Fillings.{low, high, worst, filled_index}
use Rattle.clusters.specs.Groups.{index, proper, speaks_of, positive, listed, sets, sets_by, groups_by, groups}
use Rattle.clusters.specs.Bench.{
  Case,
  bench,
  changed_lines,
  own_lines,
  copies_lines,
  four,
  changed,
  flat,
  own,
  copies,
  apart,
  equal,
  lines_found,
  unlisted_found,
  SplitCase,
  weight_found,
  split_bench,
  metric,
  near,
}
use Rattle.clusters.specs.Refined.{quartet, quartets, doubled_score, refined_weight}

computed : map lines_found bench ≡ map (λ (c : Case). c.lines) bench
unfolding lines_found bench changed_lines own_lines copies_lines four changed flat own copies apart equal groups groups_by sets_by sets listed positive speaks_of proper
    index strong_index strong_values clean_index weights pairs_of weight separation_index separation_values score place row_start has members others size
    min_z max_z least sum_of sum insert sort sum_of_smallest below each keep filled_index worst xor low high carried mark eq_z
computed = refl

computed_unlisted : map unlisted_found bench ≡ map (λ (c : Case). c.unlisted) bench
unfolding unlisted_found bench changed_lines own_lines copies_lines four changed flat own copies apart equal index strong_index strong_values clean_index
    weights pairs_of weight separation_index separation_values score place row_start has members others size min_z max_z least sum_of sum insert sort
    sum_of_smallest below each keep filled_index worst xor low high carried mark eq_z
computed_unlisted = refl

pub bench_holds : (c : Case) → c ∈ bench → (lines_found c ≡ c.lines) × (unlisted_found c ≡ c.unlisted)
bench_holds c m =
    (of_map_cong lines_found (λ (c : Case). c.lines) bench computed m, of_map_cong unlisted_found (λ (c : Case). c.unlisted) bench computed_unlisted m)

computed_weights : map weight_found split_bench ≡ map (λ (c : SplitCase). c.weight) split_bench
unfolding weight_found split_bench copies metric near refined_weight quartets quartet doubled_score pairs_of score place row_start has members mask
    complement min_z sum_of sum insert sort sum_of_smallest below each keep
computed_weights = refl

pub weights_hold : (c : SplitCase) → c ∈ split_bench → weight_found c ≡ c.weight
weights_hold c m = of_map_cong weight_found (λ (c : SplitCase). c.weight) split_bench computed_weights m
