-- The first refusal of a record that applies, by the tests before it that do not. Assumes nothing.
use Rattle.std.proofs.Common.{◌≡◌, true, false}
use Rattle.cases.specs.declared.Case.{Case}
use Rattle.cases.specs.Refusals.{refusal2, refusal3, refusal4, refusal5, refusal6, refusal7, refusal8, refusal13}
use Rattle.cases.specs.Refusals.{first_of, tests, refusal_of}

module _ (c : Case) where
  pub first_two : refusal2 c ≡ true → refusal_of c ≡ 2
  unfolding refusal_of tests first_of
  first_two e = rw e

  module _ (e2 : refusal2 c ≡ false) where
    pub first_three : refusal3 c ≡ true → refusal_of c ≡ 3
    unfolding refusal_of tests first_of
    first_three e = rw (e2, e)

    module _ (e3 : refusal3 c ≡ false) where
      pub first_four : refusal4 c ≡ true → refusal_of c ≡ 4
      unfolding refusal_of tests first_of
      first_four e = rw (e2, e3, e)

      module _ (e4 : refusal4 c ≡ false) where
        pub first_five : refusal5 c ≡ true → refusal_of c ≡ 5
        unfolding refusal_of tests first_of
        first_five e = rw (e2, e3, e4, e)

        module _ (e5 : refusal5 c ≡ false) where
          pub first_six : refusal6 c ≡ true → refusal_of c ≡ 6
          unfolding refusal_of tests first_of
          first_six e = rw (e2, e3, e4, e5, e)

          module _ (e6 : refusal6 c ≡ false) where
            pub first_seven : refusal7 c ≡ true → refusal_of c ≡ 7
            unfolding refusal_of tests first_of
            first_seven e = rw (e2, e3, e4, e5, e6, e)

            module _ (e7 : refusal7 c ≡ false) where
              pub first_eight : refusal8 c ≡ true → refusal_of c ≡ 8
              unfolding refusal_of tests first_of
              first_eight e = rw (e2, e3, e4, e5, e6, e7, e)

              module _ (e8 : refusal8 c ≡ false) where
                pub first_thirteen : refusal13 c ≡ true → refusal_of c ≡ 13
                unfolding refusal_of tests first_of
                first_thirteen e = rw (e2, e3, e4, e5, e6, e7, e8, e)

                pub first_none : refusal13 c ≡ false → refusal_of c ≡ 0
                unfolding refusal_of tests first_of
                first_none e = rw (e2, e3, e4, e5, e6, e7, e8, e)

pub ruleset refusing =
    (first_two, first_three, first_four, first_five, first_six, first_seven, first_eight, first_thirteen, first_none)
