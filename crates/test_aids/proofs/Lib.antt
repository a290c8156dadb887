mod Steps
mod CountLemmas
