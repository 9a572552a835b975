pub mod Form
pub mod Automaton
pub mod Product
pub mod Runs
pub mod Laws
pub mod Automata
