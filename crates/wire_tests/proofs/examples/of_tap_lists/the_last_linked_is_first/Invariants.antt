use Rattle.wire_tests.proofs.examples.of_tap_lists.the_last_linked_is_first.Given as goal

abbrev pub ghosts-counted : goal.ghosts-counted
ghosts-counted g a = record { name = a.blank.name; parts = a.blank.parts }
